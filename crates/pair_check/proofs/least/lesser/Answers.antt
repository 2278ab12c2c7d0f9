use Rattle.std.proofs.Common.{inl, inr, refl, subst, sym}
use Rattle.ml_base.proofs.Laws.{at_most-same}
use Rattle.segment_grammar.proofs.Rising.{accepted, refuted}
use Rattle.pair_check.specs.Least.{IsLesserOf}
use Rattle.pair_check.proofs.Lesser.{at_most-total}
use Rattle.pair_check.proofs.least.lesser.Goals as goal

pub returns-then-is_at_most : goal.returns-then-is_at_most
returns-then-is_at_most c =
    subst (λ l. IsLesserOf l c.args.weight c.in-Some.so_far) (sym c.in-Some.is) (at_most-same c.in-Some.so_far, accepted _ c.is_at_most.ensures c.if-is_at_most.true, inl refl)

pub returns-else-is_at_most : goal.returns-else-is_at_most
returns-else-is_at_most c =
    subst (λ l. IsLesserOf l c.args.weight c.args.weight) (sym c.in-Some.is)
    (at_most-total c.in-Some.so_far c.args.weight (refuted _ c.is_at_most.ensures c.if-is_at_most.false), at_most-same c.args.weight, inr refl)

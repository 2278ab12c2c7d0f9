use Rattle.std.proofs.Common.{arith}
use Rattle.std.proofs.lemmas.List.Elements.{All-more}
use Rattle.segment_grammar.proofs.Rising.{accepted, refuted}
use Rattle.pair_check.specs.Rules.{HasRoot}
use Rattle.pair_check.proofs.Loops.{first_failing_of, whole_of}
use Rattle.pair_check.proofs.beginning.check_roots.Goals as goal

pub loop-place-preserved : goal.loop-place-preserved
loop-place-preserved c =
    All-more (HasRoot c.args.pots.now) c.as_slice-pairs.result.now c.loop-place.place _ (omega arith) c.loop-place.invariant
    (accepted _ c.is_root_listed.ensures c.if-not-is_root_listed.false)

pub returns-then-not-is_root_listed-clause-err : goal.returns-then-not-is_root_listed-clause-err
returns-then-not-is_root_listed-clause-err c = λ steps starts begun. (
  begun,
  first_failing_of (HasRoot c.args.pots.now) c.as_slice-pairs.result.now c.args.pots.now c.as_slice-pairs.ensures.value c.loop-place.place _
      (omega arith) (refuted _ c.is_root_listed.ensures c.if-not-is_root_listed.true) c.loop-place.invariant,
)

pub returns-clause-ok : goal.returns-clause-ok
returns-clause-ok c =
    whole_of (HasRoot c.args.pots.now) c.as_slice-pairs.result.now c.args.pots.now c.as_slice-pairs.ensures.value c.loop-place.place (omega arith) c.loop-place.invariant

use Rattle.std.proofs.Common.{subst}
use Rattle.ml_base.specs.declared.numbers.Root.TheVariants.{Request}
use Rattle.ml_base.proofs.Laws.{at_most-same, at_most-trans}
use Rattle.segment_grammar.specs.Pots.{pot}
use Rattle.segment_grammar.proofs.Rising.{accepted}
use Rattle.knuth_search.specs.Settled.{IsLightest, IsLightestOf}
use Rattle.knuth_search.proofs.Filed.{heavier}
use Rattle.knuth_search.proofs.Choosing.{lightest_same, lightest_next, lightest_kept}
use Rattle.knuth_search.proofs.settled.Settled.lighter.Goals as goal

pub returns-in_default : goal.returns-in_default
returns-in_default c machine starts seen is best = lightest_same machine.steps starts seen c.args.target c.args.best
    (λ reached. c.in_default.ensures.none (is.potentials.all Request c.args.target reached).0 (is.potentials.all Request c.args.target reached).1) best

pub returns-in_default-best : goal.returns-in_default-best
returns-in_default-best c machine starts seen is best = lightest_next machine.steps starts seen c.args.target c.in-Some.weight (is.potentials.least (pot Request c.args.target c.in-Some.weight) c.in-Some.ensures.some)
    (λ other ks x s. absurd (subst (λ b. IsLightestOf machine.steps starts seen b) c.in_default-best.is best other x (ks, s))) (at_most-same c.in-Some.weight)

pub returns-then-is_at_most : goal.returns-then-is_at_most
returns-then-is_at_most c machine starts seen is best =
    let lightest : IsLightest machine.steps starts seen c.in-Some-best.kept = subst (λ b. IsLightestOf machine.steps starts seen b) c.in-Some-best.is best in
    lightest_kept machine.steps starts seen c.args.target c.in-Some.weight (is.potentials.least (pot Request c.args.target c.in-Some.weight) c.in-Some.ensures.some) c.in-Some-best.kept (accepted c.is_at_most.result c.is_at_most.ensures c.if-is_at_most.true) lightest

pub returns : goal.returns
returns c machine starts seen is best =
    let lightest : IsLightest machine.steps starts seen c.in-Some-best.kept = subst (λ b. IsLightestOf machine.steps starts seen b) c.in-Some-best.is best in
    lightest_next machine.steps starts seen c.args.target c.in-Some.weight (is.potentials.least (pot Request c.args.target c.in-Some.weight) c.in-Some.ensures.some)
    (λ other ks x s. at_most-trans c.in-Some.weight c.in-Some-best.kept.weight _ (heavier c.is_at_most.result c.in-Some-best.kept.weight c.in-Some.weight c.is_at_most.ensures c.if-is_at_most.false) (lightest.least other ks x s)) (at_most-same c.in-Some.weight)

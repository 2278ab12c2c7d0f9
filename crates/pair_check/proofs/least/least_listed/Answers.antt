use Rattle.std.proofs.Common.{subst, sym, arith}
use Rattle.std.proofs.lemmas.List.{take_all, take_more}
use Rattle.pair_check.specs.Least.{IsLeastOf}
use Rattle.pair_check.proofs.least.least_listed.Goals as goal

pub loop-state-preserved : goal.loop-state-preserved
loop-state-preserved c =
    subst (λ xs. IsLeastOf xs c.args.pots.now c.least_with-least.result)
    (sym (take_more c.args.states.now c.loop-state.state-index _ c.loop-state-test.true)) (c.least_with-least.ensures _ c.loop-state.invariant)

pub returns : goal.returns
returns c = subst (λ xs. IsLeastOf xs c.args.pots.now c.loop-state.least) (take_all c.loop-state.state-index c.args.states.now (omega arith)) c.loop-state.invariant

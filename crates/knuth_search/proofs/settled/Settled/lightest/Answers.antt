use Rattle.std.proofs.Common.{sym, subst, arith, take}
use Rattle.std.proofs.lemmas.List.{take_more, take_all}
use Rattle.knuth_search.specs.Settled.{IsLightestOf}
use Rattle.knuth_search.proofs.settled.Settled.lightest.Goals as goal

pub loop-number-preserved : goal.loop-number-preserved
loop-number-preserved c machine starts is = subst (λ seen. IsLightestOf machine.steps starts seen c.lighter-best.result) (sym (take_more c.args.targets.now c.loop-number.number (record { 0 = 0 }) c.loop-number-test.true))
    (c.lighter-best.ensures machine starts (take c.loop-number.number c.args.targets.now) is (c.loop-number.invariant machine starts is))

pub returns : goal.returns
returns c machine starts is = subst (λ seen. IsLightestOf machine.steps starts seen c.loop-number.best) (take_all c.loop-number.number c.args.targets.now (omega arith)) (c.loop-number.invariant machine starts is)

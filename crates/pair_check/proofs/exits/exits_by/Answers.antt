use Rattle.std.proofs.Common.{arith, subst}
use Rattle.std.proofs.lemmas.List.{take_all}
use Rattle.pair_check.specs.Exits.{AreExitsBy}
use Rattle.pair_check.proofs.Popping.{more_by}
use Rattle.pair_check.proofs.exits.exits_by.Goals as goal

pub loop-pop-preserved : goal.loop-pop-preserved
loop-pop-preserved c =
    more_by c.args.machine.now.steps c.args.pots.now c.args.entered c.args.frame c.args.pops.now c.loop-pop.pop-index _ c.loop-pop.exits.items
    c.add_exit_by.new.exits.items c.loop-pop-test.true c.loop-pop.invariant c.in_ok-add_exit_by.ensures

pub returns : goal.returns
returns c =
    subst (λ ps. AreExitsBy c.args.machine.now.steps c.args.pots.now c.args.entered c.args.frame ps c.loop-pop.exits.items)
    (take_all c.loop-pop.pop-index c.args.pops.now (omega arith)) c.loop-pop.invariant

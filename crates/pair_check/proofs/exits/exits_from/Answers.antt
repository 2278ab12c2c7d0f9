use Rattle.std.proofs.Common.{subst}
use Rattle.pair_check.specs.Exits.{AreExitsBy}
use Rattle.pair_check.proofs.Leaving.{exits_from}
use Rattle.pair_check.proofs.Popping.{from_pops}
use Rattle.pair_check.proofs.exits.exits_from.Goals as goal

pub returns-then-pops-pairs : goal.returns-then-pops-pairs
returns-then-pops-pairs c =
    from_pops c.args.machine.now.steps c.args.pots.now c.args.entered c.args.frame c.args.steps.pops.now c.in_ok-exits.exits.items c.requires.popped
    (subst (λ ps. AreExitsBy c.args.machine.now.steps c.args.pots.now c.args.entered c.args.frame ps c.in_ok-exits.exits.items) c.row-pops.ensures c.in_ok-exits.ensures)

pub returns : goal.returns
returns c =
    exits_from c.args.machine.now.steps c.args.frame c.args.pots.now c.under-pairs.result.now c.args.entered c.in_ok-exits-2.exits.items
    c.under-pairs.ensures (c.in_ok-exits-2.ensures c.args.machine.now c.requires.indexed)

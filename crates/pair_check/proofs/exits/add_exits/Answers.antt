use Rattle.pair_check.proofs.Leaving.{exits_added}
use Rattle.pair_check.proofs.exits.add_exits.Goals as goal

pub returns : goal.returns
returns c =
    λ machine indexed. exits_added machine.steps c.args.pair.now c.args.frame c.pops.result.now (c.pops.ensures machine indexed)
    c.args.exits.now.items c.push_exits.new.exits.items c.in_ok-push_exits.ensures

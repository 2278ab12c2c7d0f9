use Rattle.std.proofs.Common.{arith}
use Rattle.pair_check.proofs.Leaving.{all_exits, exits_more}
use Rattle.pair_check.proofs.exits.exits_of.Goals as goal

pub loop-pair-preserved : goal.loop-pair-preserved
loop-pair-preserved c =
    λ machine indexed. exits_more machine.steps c.args.frame c.args.pairs.now c.loop-pair.pair-index _ c.loop-pair.exits.items
    c.add_exits.new.exits.items c.loop-pair-test.true (c.loop-pair.invariant machine indexed) (c.in_ok-add_exits.ensures machine indexed)

pub returns : goal.returns
returns c =
    λ machine indexed. all_exits machine.steps c.args.frame c.args.pairs.now c.loop-pair.pair-index c.loop-pair.exits.items (omega arith) (c.loop-pair.invariant machine indexed)

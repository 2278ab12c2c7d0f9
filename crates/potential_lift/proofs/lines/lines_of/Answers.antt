use Rattle.potential_lift.proofs.Listed.{line_more}
use Rattle.potential_lift.proofs.lines.lines_of.Goals as goal

pub loop-pot-preserved : goal.loop-pot-preserved
loop-pot-preserved c = line_more c.args.built.now c.args.pots.now c.loop-pot.pot-index _ c.loop-pot.lines c.add_line.new.lines c.loop-pot-test.true c.loop-pot.invariant c.in_ok-add_line.ensures

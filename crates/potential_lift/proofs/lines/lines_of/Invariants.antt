use Rattle.std.proofs.Common.{take}
use Rattle.potential_lift.specs.Lines.{AreLinesOf}
use Rattle.potential_lift.proofs.lines.lines_of.Given as goal

abbrev pub invariant-loop-pot : goal.invariant-loop-pot
invariant-loop-pot l = AreLinesOf l.built (take l.pot-index l.pots) l.lines

use Rattle.std.proofs.Common.{take}
use Rattle.pair_check.specs.Exits.{AreExitsBy}
use Rattle.pair_check.proofs.exits.exits_by.Given as goal

abbrev pub invariant-loop-pop : goal.invariant-loop-pop
invariant-loop-pop l = AreExitsBy l.machine.steps l.pots l.entered l.frame (take l.pop-index l.pops) l.exits.items

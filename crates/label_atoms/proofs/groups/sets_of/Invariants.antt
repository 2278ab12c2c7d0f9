use Rattle.std.proofs.Common.{take}
use Rattle.label_atoms.specs.Spans.{AreSetsOf}
use Rattle.label_atoms.proofs.groups.sets_of.Given as goal

abbrev pub invariant-loop-name : goal.invariant-loop-name
invariant-loop-name l = AreSetsOf l.ranges (take l.name-index l.names) l.atoms

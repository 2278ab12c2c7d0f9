use Rattle.std.proofs.Common.{take}
use Rattle.nml_inventory.specs.ClassSets.{HasMet}
use Rattle.nml_inventory.proofs.labels.met_with.Given as goal

abbrev pub invariant-loop-part : goal.invariant-loop-part
invariant-loop-part l = HasMet l.set (take l.part-index l.parts) l.met

use Rattle.std.proofs.Common.{map}
use Rattle.nml_inventory.specs.ClassSets.{AreParts}
use Rattle.nml_inventory.proofs.labels.class_parts.Given as goal

abbrev pub invariant-loop-port : goal.invariant-loop-port
invariant-loop-port l = AreParts l.numbered l.classes l.port (map (λ v. v.items) l.lists.items)

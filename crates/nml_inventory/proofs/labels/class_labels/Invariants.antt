use Rattle.std.proofs.Common.{map}
use Rattle.nml_inventory.proofs.Merging.{AreFirst}
use Rattle.nml_inventory.proofs.labels.class_labels.Given as goal

abbrev pub invariant-loop-port : goal.invariant-loop-port
invariant-loop-port l = AreFirst l.numbered (map (λ v. v.items) l.lists.items) l.port l.labels.items

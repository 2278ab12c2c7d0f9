use Rattle.std.proofs.Common.{◌≡◌, take}
use Rattle.std.specs.Prelude.{sum_by}
use Rattle.circuit_spec.specs.Faults.{relations_of}
use Rattle.nml_inventory.specs.Relations.{open_count}
use Rattle.nml_inventory.proofs.references.open_at.Given as goal

abbrev pub invariant-loop-place : goal.invariant-loop-place
invariant-loop-place l = l.total ≡ sum_by (open_count l.numbered) (take l.place (relations_of l.element))

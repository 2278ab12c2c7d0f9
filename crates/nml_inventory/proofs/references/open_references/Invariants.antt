use Rattle.std.proofs.Common.{◌≡◌, take}
use Rattle.std.specs.Prelude.{sum_by}
use Rattle.circuit_spec.specs.Network.{Placed, elements_of}
use Rattle.nml_inventory.specs.Relations.{open_at}
use Rattle.nml_inventory.proofs.references.open_references.Given as goal

abbrev pub invariant-loop-number : goal.invariant-loop-number
invariant-loop-number l = l.total ≡ sum_by (λ (p : Placed). open_at l.numbered p.element) (take l.number (elements_of l.numbered))

-- The port of an id that has a class, and the classes of ports by their numbers.
use Rattle.std.proofs.Common.{◌≡◌, ◌≢◌, ℕ, [], sym, ◌∙◌, ap, subst}
use Rattle.std.specs.Prelude.{slice_get}
use Rattle.ml_base.proofs.Lists.{one_of_some}
use Rattle.circuit_spec.specs.Network.{Topology, Port, IsClass, ports}
use Rattle.circuit_spec.specs.Faults.{merge_faults}
use Rattle.circuit_spec.proofs.ClassLemmas.{one_class}
use Rattle.circuit_spec.proofs.Merged.{ids_once}
use Rattle.nml_inventory.specs.Aliases.{IsClassNumber}
use Rattle.nml_inventory.proofs.ClassNumbers.{port_id}
use Rattle.nml_inventory.proofs.Distinct.{same_place}
use Rattle.nml_inventory.proofs.PortNumbers.{distinct_ports}

-- a port whose class number is its own is the first of its class
pub own_class : (T : Topology) (n k : ℕ) (c : IsClassNumber T n k) → k ≡ n → IsClass T c.port.id c.port
own_class T n k c same =
    let is : c.first ≡ c.port = one_of_some (sym c.is_first ∙ ap (slice_get (ports T)) same ∙ c.is_port) in
    subst (λ (q : Port). IsClass T c.port.id q) is c.is_class

-- and a port with another class number is not
pub no_own_class : (T : Topology) (n k : ℕ) (c : IsClassNumber T n k) → merge_faults T ≡ [] → k ≢ n → IsClass T c.port.id c.port → ⊥
no_own_class T n k c merged other own =
    let is : c.first ≡ c.port = one_class T c.port.id c.first c.port c.is_class own in
    other (same_place port_id (ports T) k n c.first c.port (distinct_ports T (ids_once T merged)) c.is_first c.is_port (ap port_id is))

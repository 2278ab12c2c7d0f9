-- What is wrong with a request that a topology does not know.
use Rattle.std.specs.Prelude.{◌≡◌, ◌⊎◌, ℕ, true, IsTrue}
use Rattle.ml_base.specs.declared.numbers.Wish.{Wish}
use Rattle.ml_base.specs.declared.numbers.Wish.TheVariants.{Value}
use Rattle.circuit_spec.specs.declared.faults.RequestFault.{RequestFault}
use Rattle.circuit_spec.specs.declared.faults.RequestFault.TheVariants.{UnknownPort, LabelNotHere}
use Rattle.circuit_spec.specs.declared.hops.Request.{Request}
use Rattle.circuit_spec.specs.Network.{Name, Topology, Port, IsClass, IsInClassSet, port_has}
use Rattle.circuit_spec.specs.Faults.{IsKnownEnd}

-- some port has the id
abbrev pub IsPort : Topology → Name → Type 0
IsPort T id = IsTrue (port_has T id (λ p. true))

-- the end states the label, and it is not in the set of the port's class
abbrev pub IsMissedAt : Topology → Name → Wish → ℕ → Type 0
IsMissedAt T port wish label = (wish ≡ Value label) × ((class : Port) × IsClass T port class × (¬ IsInClassSet T class label))

-- The fault is the first of these that applies: no port has the id of FROM; none has that of TO; the label of FROM is not there;
-- the label of TO is not there.
abbrev pub IsRequestFault : Topology → Request → RequestFault → Type 0
IsRequestFault T r (UnknownPort id) =
    ((¬ IsPort T r.from) × (id ≡ r.from))
    ⊎ (IsPort T r.from × (¬ IsPort T r.to) × (id ≡ r.to))
IsRequestFault T r (LabelNotHere id label) =
    IsPort T r.from × IsPort T r.to
    × ((IsMissedAt T r.from r.from_wish label × (id ≡ r.from))
    ⊎ (IsKnownEnd T r.from r.from_wish × IsMissedAt T r.to r.to_wish label × (id ≡ r.to)))

-- Why a request is refused.
use Rattle.std.specs.Prelude.{◌≡◌, ℕ, Some, slice_get}
use Rattle.ml_base.specs.declared.numbers.Wish.{Wish}
use Rattle.circuit_spec.specs.declared.faults.RequestFault.TheVariants as request_fault
use Rattle.circuit_spec.specs.declared.hops.Request.{Request}
use Rattle.circuit_spec.specs.Network.{Name, Topology, Port, IsClass, ports}
use Rattle.circuit_spec.specs.Requests.{IsMissedAt, IsPort, IsRequestFault}
use Rattle.finder_core.specs.declared.faults.SolveFault.{SolveFault}
use Rattle.finder_core.specs.declared.faults.SolveFault.TheVariants.{UnknownPort, LabelNotHere, NoMemory}

-- a request is refused with its fault, or memory ran out
abbrev pub IsRefusal : Topology → Request → SolveFault → Type 0
IsRefusal T r (UnknownPort id) = IsRequestFault T r (request_fault.UnknownPort id)
IsRefusal T r (LabelNotHere id label) = IsRequestFault T r (request_fault.LabelNotHere id label)
IsRefusal T r NoMemory = Unit {0}

-- the port of the number is the class of the port of the id
pub record IsClassOf (T : Topology) (id : Name) (number : ℕ) : Type 0 where
  pub class : Port
  pub at : slice_get (ports T) number ≡ Some class
  pub is_class : IsClass T id class

-- no port has the id of the fault, or memory ran out
abbrev pub IsUnknown : Topology → Name → SolveFault → Type 0
IsUnknown T id (UnknownPort i) = (¬ IsPort T id) × (i ≡ id)
IsUnknown T id (LabelNotHere i label) = ⊥
IsUnknown T id NoMemory = Unit {0}

-- the wish states the label of the fault, which the class of the port does not have, or memory ran out
abbrev pub IsMissed : Topology → Name → Wish → SolveFault → Type 0
IsMissed T id wish (LabelNotHere i label) = IsMissedAt T id wish label × (i ≡ id)
IsMissed T id wish (UnknownPort i) = ⊥
IsMissed T id wish NoMemory = Unit {0}

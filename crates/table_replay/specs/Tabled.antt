-- The rules of a list by the places that they leave from, and a unit on its way through them.
use Rattle.std.specs.Prelude.{◌≡◌, ◌≢◌, ◌⊎◌, ℕ, ◌+◌, ◌≤◌, List, [], ◌∷◌, ◌++◌, Bool, true, false, Option, None, Some, Result, Ok, Err, ◌<◌, length, slice_get}
use Rattle.std.specs.List.{Contains}
use Rattle.std.specs.Map.{lookup}
use Rattle.circuit_spec.specs.declared.hops.Hop.{Hop}
use Rattle.circuit_spec.specs.declared.hops.PlaceName.{PlaceName}
use Rattle.circuit_spec.specs.declared.hops.Unit.{Unit as DataUnit}
use Rattle.circuit_spec.specs.Network.{Topology, Port, IsClass}
use Rattle.circuit_spec.specs.Flags.{same_place}
use Rattle.device_rules.specs.declared.rules.Rule.{Rule}
use Rattle.table_replay.specs.declared.table.Slot.{Slot}
use Rattle.table_replay.specs.declared.table.Slot.TheVariants.{One, Several}
use Rattle.packet_replay.specs.Carried.{Carried}
use Rattle.table_replay.specs.declared.fault.ForwardFault.{ForwardFault}
use Rattle.table_replay.specs.declared.fault.ForwardFault.TheVariants as why
use Rattle.circuit_spec.specs.Steps.{Step}
use Rattle.table_replay.specs.Forwarding.{AreLeaving, Ending, Forwards, ForwardsFrom, GoesOn, Stops, place_of}

-- what a slot says of the rules that leave from a place
abbrev pub Tells : Topology → List Rule → PlaceName → Option Slot → Type 0
Tells T rules place None = AreLeaving T place rules []
Tells T rules place (Some (One number)) = (rule : Rule) × (slice_get rules number ≡ Some rule) × AreLeaving T place rules (rule ∷ [])
Tells T rules place (Some Several) = (one other : Rule) × (more : List Rule) × AreLeaving T place rules (one ∷ other ∷ more)

-- the slot of a place, among those of all places that a rule leaves from
abbrev pub slot_at : List (PlaceName × Slot) → PlaceName → Option Slot
slot_at slots place = lookup (same_place place) slots

-- the slots tell of every place
abbrev pub AreSlots : Topology → List Rule → List (PlaceName × Slot) → Type 0
AreSlots T rules slots = (place : PlaceName) → Tells T rules place (slot_at slots place)

-- a slot with one rule more
abbrev pub slot_with : Option Slot → ℕ → Slot
slot_with None number = One number
slot_with (Some slot) number = Several

-- the place has one rule more, and the others are as they were
pub record AddsRule (old new : List (PlaceName × Slot)) (place : PlaceName) (number : ℕ) : Type 0 where
  pub here : slot_at new place ≡ Some (slot_with (slot_at old place) number)
  pub others : (other : PlaceName) → other ≢ place → slot_at new other ≡ slot_at old other

-- the place from which a hop leaves, if its port is there
abbrev pub IsLeavingPlace : Topology → Hop → Option PlaceName → Type 0
IsLeavingPlace T h None = (class : Port) → ¬ IsClass T h.from class
IsLeavingPlace T h (Some place) = (class : Port) × IsClass T h.from class × (place ≡ record { class = class.id; label = h.from_label })

-- The slots tell of the places that were not met, and the stack has room for a frame more at each of them.
pub record IsReady (T : Topology) (rules : List Rule) (carried : Carried) (slots : List (PlaceName × Slot)) (met : List PlaceName) : Type 0 where
  pub tells : (place : PlaceName) → ¬ Contains met place → Tells T rules place (slot_at slots place)
  pub room : length carried.unit.stack + length slots ≤ carried.room

-- a hop is taken, and put behind those that were taken
pub record Takes (T : Topology) (rules : List Rule) (target : PlaceName) (met met_after : List PlaceName) (u v : DataUnit) (hops hops_after : List Hop) : Type 0 where
  pub hop : Hop
  pub goes_on : GoesOn T rules target met u hop v
  pub met_grows : met_after ≡ met ++ place_of u ∷ []
  pub hops_grow : hops_after ≡ hops ++ hop ∷ []

-- forwarding stops at the unit, or memory ran out
abbrev pub StopsOrFails : Topology → List Rule → PlaceName → List PlaceName → DataUnit → ForwardFault → Type 0
StopsOrFails T rules target met u fault = (fault ≡ why.NoMemory) ⊎ Stops T rules target met u fault

-- the place was met before, or is met now
abbrev pub Meets : List PlaceName → List PlaceName → PlaceName → Bool → Type 0
Meets old new place true = (¬ Contains old place) × (new ≡ old ++ place ∷ [])
Meets old new place false = Contains old place × (new ≡ old)

-- the hops so far, and those to come from the unit, are those of the whole way
abbrev pub Continues : Topology → List Rule → PlaceName → PlaceName → List PlaceName → DataUnit → List Hop → Type 0
Continues T rules start target met u taken =
    (hops : List Hop) (ending : Ending) → Forwards T rules target met u hops ending → ForwardsFrom T rules start target (taken ++ hops) ending

-- the hop takes the unit on, or it is no hop of the unit
abbrev pub Moves : Topology → Carried → Carried → Hop → Bool → Type 0
Moves T old new h true = Step T old.unit h new.unit
Moves T old new h false = ((v : DataUnit) → ¬ Step T old.unit h v) × (new ≡ old)

-- at the target the hops are answered, or the frames that are left
abbrev pub Arrives : DataUnit → List Hop → Result (List Hop) ForwardFault → Type 0
Arrives u hops (Ok list) = (u.stack ≡ []) × (list ≡ hops)
Arrives u hops (Err fault) = (fault ≡ why.Left (length u.stack)) × (0 < length u.stack)

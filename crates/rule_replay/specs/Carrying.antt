-- A unit that is carried over hops, and what is told of it.
use Rattle.std.specs.Prelude.{◌≡◌, ◌↔◌, ◌≤◌, ◌+◌, ℕ, List, [], ◌∷◌, ◌++◌, Bool, IsTrue, Option, None, Some, length}
use Rattle.circuit_spec.specs.declared.hops.Hop.{Hop}
use Rattle.circuit_spec.specs.declared.hops.PlaceName.{PlaceName}
use Rattle.circuit_spec.specs.declared.hops.Request.{Request}
use Rattle.circuit_spec.specs.declared.hops.Unit.{Unit as DataUnit}
use Rattle.circuit_spec.specs.Flags.{Enters, flags_after}
use Rattle.circuit_spec.specs.Network.{Topology, Port, IsClass}
use Rattle.circuit_spec.specs.Segments.{unit_in}
use Rattle.circuit_spec.specs.Steps.{Run, Step, Walk}
use Rattle.packet_replay.specs.Carried.{Carried as CarriedUnit}
use Rattle.device_rules.specs.declared.rules.Rule.{Rule}
use Rattle.table_replay.specs.Forwarding.{place_of}
use Rattle.table_replay.specs.Walked.{AreUnset}
use Rattle.answer_spec.specs.Certificate.{AreCarried, first_place}
use Rattle.rule_replay.specs.declared.carrying.Carry.{Carry}
use Rattle.rule_replay.specs.declared.carrying.Carry.TheVariants.{Through, Refused}
use Rattle.rule_replay.specs.declared.replayed.Replayed.{Replayed as WhatIsTold}
use Rattle.rule_replay.specs.declared.replayed.Replayed.TheVariants.{Carried, NotCarried}
use Rattle.rule_replay.specs.declared.replayed.ReplayCause.{ReplayCause}
use Rattle.rule_replay.specs.declared.replayed.ReplayCause.TheVariants as cause
use Rattle.rule_replay.specs.Replaying.{IsFirstRefused, IsUnflagged, Refuses}

-- the hop takes the unit on, or it is refused
abbrev pub StepsOver : Topology → DataUnit → DataUnit → Hop → Option ReplayCause → Type 0
StepsOver T u v h None = Step T u h v
StepsOver T u v h (Some why) = Refuses T u h why

-- the hop takes the unit on, and the place that it enters is put behind the others; or it is refused
abbrev pub Passes : Topology → Hop → DataUnit → DataUnit → List PlaceName → List PlaceName → Option ReplayCause → Type 0
Passes T h u v places after None = Step T u h v × (after ≡ places ++ place_of v ∷ [])
Passes T h u v places after (Some why) = Refuses T u h why

-- the hops are taken from the start place to the unit, and the places are the start and those that they enter
abbrev pub HasPassed : Topology → PlaceName → List Hop → DataUnit → List PlaceName → Type 0
HasPassed T start hops unit places = Run T (unit_in start []) hops unit × ((entered : List PlaceName) × Enters T hops entered × (places ≡ start ∷ entered))

-- the hops before hop n are taken from the start place, and that one is refused
pub record IsRefusedAt (T : Topology) (start : PlaceName) (hops : List Hop) (n : ℕ) (why : ReplayCause) : Type 0 where
  pub before : List Hop
  pub hop : Hop
  pub behind : List Hop
  pub split : hops ≡ before ++ hop ∷ behind
  pub number : n ≡ length before + 1
  pub unit : DataUnit
  pub run : Run T (unit_in start []) before unit
  pub refused : Refuses T unit hop why

-- all hops are taken, or one is refused
abbrev pub IsCarry : Topology → PlaceName → List Hop → Carry → Type 0
IsCarry T start hops (Through passed) = HasPassed T start hops passed.replay.unit passed.places
IsCarry T start hops (Refused n why) = IsRefusedAt T start hops n why

-- the place where the hops begin
abbrev pub IsFirstPlace : Topology → Request → List Hop → PlaceName → Type 0
IsFirstPlace T r hops place = (class : Port) × IsClass T r.from class × (place ≡ first_place class r hops)

-- what is told of the hops of a known request
abbrev pub IsToldOfHops : Topology → Request → List Hop → WhatIsTold → Type 0
IsToldOfHops T r hops (Carried n any_order) = (n ≡ length hops) × Walk T r hops × (IsTrue any_order ↔ IsUnflagged T r hops)
IsToldOfHops T r hops (NotCarried n cause.NoHop) = IsFirstRefused T r hops n cause.NoHop
IsToldOfHops T r hops (NotCarried n cause.Label) = IsFirstRefused T r hops n cause.Label
IsToldOfHops T r hops (NotCarried n cause.Frame) = IsFirstRefused T r hops n cause.Frame
IsToldOfHops T r hops (NotCarried n cause.End) = (n ≡ length hops) × AreCarried T r hops × (¬ Walk T r hops)
IsToldOfHops T r hops (NotCarried n cause.Text) = ⊥
IsToldOfHops T r hops (NotCarried n cause.Outcome) = ⊥
IsToldOfHops T r hops (NotCarried n cause.Request) = ⊥
IsToldOfHops T r hops (NotCarried n cause.Number) = ⊥

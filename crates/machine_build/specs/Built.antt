-- The machine of a network: its states are places and its steps are hops.
--   BuiltValue    a machine, the places of its states, and where the hops of its steps are
--   IsHopAt       the hop of a step
--   IsDoneBy      the hop does to the stack what the step does
--   AreAllowed    the states at an end of a request
--   IsBuilt       the machine has exactly the hops between open places whose labels are in a table
use Rattle.std.specs.Prelude.{◌≡◌, ◌↔◌, ℕ, List, [], ◌∷◌, Option, None, Some, length, slice_get}
use Rattle.std.specs.List.{Contains}
use Rattle.ml_base.specs.declared.numbers.StateNo.{StateNo}
use Rattle.ml_base.specs.declared.numbers.Wish.{Wish}
use Rattle.nml_elements.specs.declared.elements.Element.{Element}
use Rattle.nml_elements.specs.declared.elements.Element.TheVariants as element
use Rattle.circuit_spec.specs.declared.hops.Frame.{Frame}
use Rattle.circuit_spec.specs.declared.hops.Hop.{Hop}
use Rattle.circuit_spec.specs.declared.hops.HopKind.{HopKind}
use Rattle.circuit_spec.specs.declared.hops.HopKind.TheVariants as kind
use Rattle.circuit_spec.specs.declared.hops.PlaceName.{PlaceName}
use Rattle.circuit_spec.specs.declared.hops.Request.{Request}
use Rattle.circuit_spec.specs.Network.{Name, Topology, Placed, Port, elements_of, id_of, ports}
use Rattle.circuit_spec.specs.Segments.{unit_in}
use Rattle.circuit_spec.specs.Steps.{IsAllowed, Step, cost_of}
use Rattle.kept_table.specs.Table.{KeptOfType}
use Rattle.open_places.specs.Places.{IsRising, IsStatePlace}
use Rattle.adapt_machine.specs.declared.MachineKind.{MachineKind}
use Rattle.adapt_machine.specs.declared.MachineKind.TheVariants.{Flat, Push, Pop}
use Rattle.adapt_machine.specs.declared.MachineStep.{MachineStep}
use Rattle.adapt_machine.specs.Machine.{MachineValue}
use Rattle.machine_build.specs.declared.built.Site.{Site}

-- the machine, the place of each state, the site of each step, and the states at the ends of a request
pub record BuiltValue : Type 0 where
  pub machine : MachineValue
  pub places : List PlaceName
  pub sites : List Site
  pub starts : List StateNo
  pub targets : List StateNo

-- the state is the place
abbrev pub IsState : BuiltValue → StateNo → PlaceName → Type 0
IsState b state place = slice_get b.places state.0 ≡ Some place

-- the kind of the hops of an element, if it makes hops
abbrev pub kind_of : Element → Option HopKind
kind_of (element.Link l) = Some kind.Link
kind_of (element.Switching s) = Some kind.Cross
kind_of (element.Adaptation a) = Some kind.Adapt
kind_of (element.Deadaptation a) = Some kind.Deadapt
kind_of (element.Conversion c) = Some kind.Convert
kind_of (element.Node n) = None
kind_of (element.Port p) = None

-- the hop of a step: over the element and between the ports of its site, with the labels of its two states
pub record IsHopAt (T : Topology) (b : BuiltValue) (k : ℕ) (h : Hop) : Type 0 where
  pub step : MachineStep
  pub site : Site
  pub placed : Placed
  pub from : Port
  pub to : Port
  pub leaves : PlaceName
  pub enters : PlaceName
  pub step_at : slice_get b.machine.steps k ≡ Some step
  pub site_at : slice_get b.sites k ≡ Some site
  pub element_at : slice_get (elements_of T) site.element ≡ Some placed
  pub from_at : slice_get (ports T) site.from.0 ≡ Some from
  pub to_at : slice_get (ports T) site.to.0 ≡ Some to
  pub leaves_at : IsState b step.from leaves
  pub enters_at : IsState b step.to enters
  pub same_kind : kind_of placed.element ≡ Some h.kind
  pub same_element : h.element ≡ id_of placed.element
  pub same_from : h.from ≡ from.id
  pub from_label : h.from_label ≡ leaves.label
  pub same_to : h.to ≡ to.id
  pub to_label : h.to_label ≡ enters.label
  pub same_domain : h.domain ≡ placed.domain.id

-- the hop takes a unit from the one place to the other, and does to the stack what the step does, by the frames of these numbers
abbrev pub MovesBy : Topology → List Frame → PlaceName → PlaceName → Hop → ℕ → MachineKind → Type 0
MovesBy T frames x y h number Flat = Step T (unit_in x []) h (unit_in y [])
MovesBy T frames x y h number Push = (frame : Frame) × (slice_get frames number ≡ Some frame) × Step T (unit_in x []) h (unit_in y (frame ∷ []))
MovesBy T frames x y h number Pop = (frame : Frame) × (slice_get frames number ≡ Some frame) × Step T (unit_in x (frame ∷ [])) h (unit_in y [])

-- the same, at the cost of the step
pub record IsDoneBy (T : Topology) (frames : List Frame) (x y : PlaceName) (t : MachineStep) (h : Hop) : Type 0 where
  pub costs : cost_of T h ≡ t.cost
  pub moves : MovesBy T frames x y h t.frame.0 t.kind

-- the state is an allowed place of an end
pub record IsAllowedState (T : Topology) (places : List PlaceName) (port : Name) (wish : Wish) (state : StateNo) : Type 0 where
  pub place : PlaceName
  pub class : Port
  pub is_state : slice_get places state.0 ≡ Some place
  pub named : place.class ≡ class.id
  pub allowed : IsAllowed T port wish class place.label

-- the states are those that are allowed places of an end
abbrev pub AreAllowed : Topology → List PlaceName → Name → Wish → List StateNo → Type 0
AreAllowed T places port wish states = (state : StateNo) → Contains states state ↔ IsAllowedState T places port wish state

-- The machine of the topology over a table of labels, for a request: its states are the open places whose label, if any, is in the
-- table; each step has one hop, which is a hop of the network between its places, of its kind and cost; and each hop of the network
-- between two states, whatever the stacks, is the hop of exactly one step. Equal frames have one number, and other frames another.
pub record IsBuilt (T : Topology) (table : List KeptOfType) (r : Request) (b : BuiltValue) : Type 0 where
  pub frames : List Frame
  pub states : b.machine.states ≡ length b.places
  pub framed : b.machine.frames ≡ length frames
  pub frames_differ : (f g : ℕ) (frame : Frame) → slice_get frames f ≡ Some frame → slice_get frames g ≡ Some frame → f ≡ g
  pub rise : IsRising b.places
  pub places_are : (place : PlaceName) → Contains b.places place ↔ IsStatePlace T table place
  pub hop : (k : ℕ) (t : MachineStep) → slice_get b.machine.steps k ≡ Some t → (h : Hop) × IsHopAt T b k h
  pub sound : (k : ℕ) (t : MachineStep) (h : Hop) (x y : PlaceName) → slice_get b.machine.steps k ≡ Some t → IsHopAt T b k h
      → IsState b t.from x → IsState b t.to y → IsDoneBy T frames x y t h
  pub complete : (x y : PlaceName) (s u : List Frame) (h : Hop) → IsStatePlace T table x → IsStatePlace T table y
      → Step T (unit_in x s) h (unit_in y u) → (k : ℕ) × (hop : IsHopAt T b k h) × (hop.leaves ≡ x) × (hop.enters ≡ y)
  pub once : (j k : ℕ) (h : Hop) → IsHopAt T b j h → IsHopAt T b k h → j ≡ k
  pub starts_are : AreAllowed T b.places r.from r.from_wish b.starts
  pub targets_are : AreAllowed T b.places r.to r.to_wish b.targets

-- The ways through the elements of a network: from an end at the near side of an element to one at its far side. The near side of an
-- adaptation and of a deadaptation is that of its client ports; of all else it is the one that units come from.
--   is_near, is_far    whether a port is at a side of an element
--   IsWay              a way through an element that hops take
--   IsDone             what a move does and costs
--   AreFitting         the states of a class with the labels that an element lets through
--   moves_by           the moves of steps and sites
use Rattle.std.specs.Prelude.{◌≡◌, ◌↔◌, ◌⊎◌, ℕ, ◌<◌, ◌≤◌, List, [], ◌∷◌, Bool, true, false, None, Some, length, slice_get}
use Rattle.nml_elements.specs.declared.elements.Element.{Element}
use Rattle.nml_elements.specs.declared.elements.Element.TheVariants as element
use Rattle.nml_elements.specs.declared.elements.Labels.{Labels}
use Rattle.nml_elements.specs.declared.elements.Labels.TheVariants.{Unlabelled, Of}
use Rattle.ml_base.specs.declared.numbers.PortNo.{PortNo}
use Rattle.ml_base.specs.declared.numbers.StateNo.{StateNo}
use Rattle.ml_base.specs.declared.numbers.Wish.{Wish}
use Rattle.ml_base.specs.declared.numbers.Wish.TheVariants.{Any, Value}
use Rattle.std.specs.List.{Contains}
use Rattle.label_sets.specs.Ranges.{has}
use Rattle.circuit_spec.specs.declared.hops.Frame.{Frame}
use Rattle.circuit_spec.specs.declared.hops.PlaceName.{PlaceName}
use Rattle.circuit_spec.specs.Network.{Tag, Topology, Placed, Port, IsClass, IsPlace, elements_of, names, ports}
use Rattle.circuit_spec.specs.Steps.{inbound_of, outbound_of}
use Rattle.open_places.specs.declared.span.Span.{Span}
use Rattle.open_places.specs.Places.{PlacesValue, IsRising}
use Rattle.adapt_machine.specs.declared.MachineKind.{MachineKind}
use Rattle.adapt_machine.specs.declared.MachineKind.TheVariants.{Flat, Push, Pop}
use Rattle.adapt_machine.specs.declared.MachineStep.{MachineStep}
use Rattle.adapt_machine.specs.Machine.{push_step, pop_step}
use Rattle.machine_build.specs.declared.built.Site.{Site}
use Rattle.machine_build.specs.declared.ways.Crossing.{Crossing}
use Rattle.machine_build.specs.declared.ways.End.{End}
use Rattle.machine_build.specs.declared.ways.Move.{Move}
use Rattle.machine_build.specs.Frames.{HasClass, IsEffect}

-- the port is at the near side of the element
abbrev pub is_near : Topology → Element → Port → Bool
is_near T (element.Link l) p = names p.sources l.id
is_near T (element.Switching s) p = names (inbound_of T s) p.id
is_near T (element.Adaptation a) p = names a.ports p.id
is_near T (element.Deadaptation a) p = names a.ports p.id
is_near T (element.Conversion c) p = names c.inbound p.id
is_near T (element.Node n) p = false
is_near T (element.Port q) p = false

-- the port is at its far side
abbrev pub is_far : Topology → Element → Port → Bool
is_far T (element.Link l) p = names p.sinks l.id
is_far T (element.Switching s) p = names (outbound_of T s) p.id
is_far T (element.Adaptation a) p = names p.services a.id
is_far T (element.Deadaptation a) p = names p.services a.id
is_far T (element.Conversion c) p = names c.outbound p.id
is_far T (element.Node n) p = false
is_far T (element.Port q) p = false

-- whether a link with these labels takes the label
abbrev pub carries : Labels → Tag → Bool
carries Unlabelled label = true
carries (Of labeltype set) None = false
carries (Of labeltype set) (Some label) = has set label

-- whether the element takes the label
abbrev pub takes : Element → Tag → Bool
takes (element.Link l) label = carries l.labels label
takes (element.Switching s) label = true
takes (element.Adaptation a) label = true
takes (element.Deadaptation a) label = true
takes (element.Conversion c) label = true
takes (element.Node n) label = true
takes (element.Port p) label = true

-- whether another label may come out than went in
abbrev pub changes : Element → Bool
changes (element.Link l) = false
changes (element.Switching s) = s.swapping
changes (element.Adaptation a) = true
changes (element.Deadaptation a) = true
changes (element.Conversion c) = true
changes (element.Node n) = true
changes (element.Port p) = true

-- the label is this one, unless any may be
abbrev pub Lets : Bool → Tag → Tag → Type 0
Lets any wanted label = (any ≡ true) ⊎ (label ≡ wanted)

-- the end is the port and a place of its class
pub record IsEnd (T : Topology) (places : List PlaceName) (end : End) (port : Port) (place : PlaceName) : Type 0 where
  pub class : Port
  pub port_at : slice_get (ports T) end.port.0 ≡ Some port
  pub is_class : IsClass T port.id class
  pub place_at : slice_get places end.state.0 ≡ Some place
  pub named : place.class ≡ class.id

-- an element, an end at its near side and one at its far side
pub record Way : Type 0 where
  pub element : ℕ
  pub near : End
  pub far : End

-- the way of a move
abbrev pub way_of : Move → Way
way_of m = record { element = m.element; near = m.near; far = m.far }

-- ports at the sides of the element, and labels that it lets through
pub record IsWay (T : Topology) (places : List PlaceName) (w : Way) : Type 0 where
  pub placed : Placed
  pub from : Port
  pub to : Port
  pub leaves : PlaceName
  pub enters : PlaceName
  pub element_at : slice_get (elements_of T) w.element ≡ Some placed
  pub near : IsEnd T places w.near from leaves
  pub far : IsEnd T places w.far to enters
  pub from_near : is_near T placed.element from ≡ true
  pub to_far : is_far T placed.element to ≡ true
  pub taken : takes placed.element leaves.label ≡ true
  pub lets : Lets (changes placed.element) leaves.label enters.label

-- the way through the element of a number from a port and a state
abbrev pub IsFrom : Topology → List PlaceName → ℕ → PortNo → ℕ → Way → Type 0
IsFrom T places number port state w = IsWay T places w × (w.element ≡ number) × (w.near ≡ record { port = port; state = record { 0 = state } })

-- the move does and costs what the element's steps do and cost at the near place
pub record IsDone (T : Topology) (places : List PlaceName) (frames : List Frame) (m : Move) : Type 0 where
  pub placed : Placed
  pub place : PlaceName
  pub element_at : slice_get (elements_of T) m.element ≡ Some placed
  pub place_at : slice_get places m.near.state.0 ≡ Some place
  pub effect : IsEffect T frames placed.element m.near.port.0 place.label m.effect

-- the port of a number is at the near side of the element of a number
pub record IsNearPort (T : Topology) (number port : ℕ) : Type 0 where
  pub placed : Placed
  pub p : Port
  pub element_at : slice_get (elements_of T) number ≡ Some placed
  pub port_at : slice_get (ports T) port ≡ Some p
  pub near : is_near T placed.element p ≡ true

-- the end is at the near side of the element of a number
pub record IsNearEnd (T : Topology) (places : List PlaceName) (number : ℕ) (end : End) : Type 0 where
  pub port : Port
  pub place : PlaceName
  pub is_end : IsEnd T places end port place
  pub near : IsNearPort T number end.port.0

-- the port of a number is at the far side of the element of a number
pub record IsFarPort (T : Topology) (number port : ℕ) : Type 0 where
  pub placed : Placed
  pub p : Port
  pub element_at : slice_get (elements_of T) number ≡ Some placed
  pub port_at : slice_get (ports T) port ≡ Some p
  pub far : is_far T placed.element p ≡ true

-- an end whose place has the label, unless any may be there
pub record HasLabel (T : Topology) (places : List PlaceName) (any : Bool) (wanted : Tag) (end : End) : Type 0 where
  pub port : Port
  pub place : PlaceName
  pub is_end : IsEnd T places end port place
  pub lets : Lets any wanted place.label

-- a way on from the near end of a crossing
pub record GoesFrom (T : Topology) (places : List PlaceName) (c : Crossing) (w : Way) : Type 0 where
  pub same_element : w.element ≡ c.element
  pub same_near : w.near ≡ c.near
  pub far : HasLabel T places c.any c.label w.far

-- the states of the span are those of the port's class whose label is this one, unless any may be there
pub record AreFitting (T : Topology) (places : List PlaceName) (port : ℕ) (any : Bool) (wanted : Tag) (span : Span) : Type 0 where
  pub class : Port
  pub has_class : HasClass T port class
  pub proper : span.first ≤ span.end
  pub within : span.end ≤ length places
  pub are : (state : ℕ) (place : PlaceName) → slice_get places state ≡ Some place → ((place.class ≡ class.id) × Lets any wanted place.label) ↔ ((span.first ≤ state) × (state < span.end))

-- what of the places the ways are read from: their order and the spans of the classes
pub record HaveSpans (T : Topology) (v : PlacesValue) : Type 0 where
  pub rise : IsRising v.places
  pub long : length v.spans ≡ length (ports T)
  pub spans_are : (number : ℕ) (p class : Port) (span : Span) → slice_get (ports T) number ≡ Some p → IsClass T p.id class → slice_get v.spans number ≡ Some span
      → (state : ℕ) (place : PlaceName) → slice_get v.places state ≡ Some place
      → (place.class ≡ class.id) ↔ ((span.first ≤ state) × (state < span.end))

-- the places are those of classes and are open
abbrev pub AreOpen : Topology → List PlaceName → Type 0
AreOpen T places = (state : ℕ) (place : PlaceName) → slice_get places state ≡ Some place → (class : Port) × (place.class ≡ class.id) × IsPlace T class.id place.label class

-- whether any label is wished, and the label that is wished else
abbrev pub is_any : Wish → Bool
is_any Any = true
is_any (Value label) = false

abbrev pub label_of : Wish → Tag
label_of Any = None
label_of (Value label) = Some label

-- the states of the span
abbrev pub AreStatesOf : Span → List StateNo → Type 0
AreStatesOf span states = (state : StateNo) → Contains states state ↔ ((span.first ≤ state.0) × (state.0 < span.end))

-- the site and the step of a move: a pop goes to the near side
abbrev pub site_by : MachineKind → Move → Site
site_by Flat m = record { element = m.element; from = m.near.port; to = m.far.port }
site_by Push m = record { element = m.element; from = m.near.port; to = m.far.port }
site_by Pop m = record { element = m.element; from = m.far.port; to = m.near.port }

abbrev pub site_of : Move → Site
site_of m = site_by m.effect.kind m

abbrev pub step_by : MachineKind → Move → MachineStep
step_by Flat m = record { kind = Flat; from = m.near.state; to = m.far.state; frame = m.effect.frame; cost = m.effect.cost }
step_by Push m = push_step m.near.state m.far.state m.effect.frame m.effect.cost
step_by Pop m = pop_step m.far.state m.near.state m.effect.frame m.effect.cost

abbrev pub step_of : Move → MachineStep
step_of m = step_by m.effect.kind m

-- the end that a step of this site leaves, and the one that it enters
abbrev pub from_of : MachineStep → Site → End
from_of t s = record { port = s.from; state = t.from }

abbrev pub to_of : MachineStep → Site → End
to_of t s = record { port = s.to; state = t.to }

-- the near and the far one of these two
abbrev pub near_by : MachineKind → End → End → End
near_by Flat from to = from
near_by Push from to = from
near_by Pop from to = to

abbrev pub far_by : MachineKind → End → End → End
far_by Flat from to = to
far_by Push from to = to
far_by Pop from to = from

-- the move of a step and its site
abbrev pub move_of : MachineStep → Site → Move
move_of t s = record {
  element = s.element;
  near = near_by t.kind (from_of t s) (to_of t s);
  far = far_by t.kind (from_of t s) (to_of t s);
  effect = record { kind = t.kind; frame = t.frame; cost = t.cost };
}

-- the moves of steps, each with the site at its place
abbrev pub moves_by : List MachineStep → List Site → List Move
moves_by [] sites = []
moves_by (t ∷ ts) [] = []
moves_by (t ∷ ts) (s ∷ ss) = move_of t s ∷ moves_by ts ss

-- What a hop asks of a unit, and which refusal says that it asks too much.
--   Way          the element of a hop, and the classes of its two ports
--   IsRelated    the element is of the hop's kind and relates its ports, and the unit is where the hop begins
--   FitsLabels   the unit has the from label, both places are open, and the element's label rule holds
--   FitsFrame    a deadaptation finds its frame on top
--   HasRoom      an adaptation finds room on the stack
--   IsRefused    the table of refusals: each says that its condition is the first that fails
--   unit_after   where the hop takes the unit
--   StepsWhereFitting, TellsOfSteps   what the conditions and the refusals say of a next unit
use Rattle.std.specs.Prelude.{◌≡◌, ◌⊎◌, ◌↔◌, ◌<◌, ◌-◌, ℕ, List, [], ◌∷◌, ◌++◌, IsTrue, Some, length, take}
use Rattle.nml_elements.specs.declared.elements.Element.{Element}
use Rattle.nml_elements.specs.declared.elements.Element.TheVariants as element
use Rattle.circuit_spec.specs.declared.hops.Frame.{Frame}
use Rattle.circuit_spec.specs.declared.hops.Hop.{Hop}
use Rattle.circuit_spec.specs.declared.hops.HopKind.TheVariants as kind
use Rattle.circuit_spec.specs.declared.hops.Unit.{Unit as DataUnit}
use Rattle.circuit_spec.specs.Network.{Topology, Placed, Port, IsClass, IsOpen, element_named, names, sends_into, takes_from, serves}
use Rattle.circuit_spec.specs.Steps.{IsCarried, Step, frame_of, inbound_of, outbound_of}
use Rattle.packet_replay.specs.declared.faults.StepFault.{StepFault}
use Rattle.packet_replay.specs.declared.faults.StepFault.TheVariants.{NoHop, Label, Frame as NoFrame, Full, NoMemory}

-- the element of a hop, and the classes of its two ports
pub record Way : Type 0 where
  pub placed : Placed
  pub from : Port
  pub to : Port

-- the hop's element is there, and its two ports are ports, of these classes
pub record IsWay (T : Topology) (h : Hop) (way : Way) : Type 0 where
  pub element : element_named T h.element ≡ Some way.placed
  pub from : IsClass T h.from way.from
  pub to : IsClass T h.to way.to

-- The first condition: what is related

-- the element is of the hop's kind and relates its two ports
abbrev pub Relates : Topology → Hop → Element → Type 0
Relates T h (element.Link l) = (h.kind ≡ kind.Link) × IsTrue (sends_into T h.from l.id) × IsTrue (takes_from T h.to l.id)
Relates T h (element.Switching s) = (h.kind ≡ kind.Cross) × IsTrue (names (inbound_of T s) h.from) × IsTrue (names (outbound_of T s) h.to)
Relates T h (element.Adaptation a) = (h.kind ≡ kind.Adapt) × IsTrue (names a.ports h.from) × IsTrue (serves T h.to a.id)
Relates T h (element.Deadaptation a) = (h.kind ≡ kind.Deadapt) × IsTrue (serves T h.from a.id) × IsTrue (names a.ports h.to)
Relates T h (element.Conversion c) = (h.kind ≡ kind.Convert) × IsTrue (names c.inbound h.from) × IsTrue (names c.outbound h.to)
Relates T h (element.Node n) = ⊥
Relates T h (element.Port p) = ⊥

-- The element is of the hop's domain and kind and relates its two ports, and the unit is in the from port's class.
pub record IsRelated (T : Topology) (u : DataUnit) (h : Hop) (way : Way) : Type 0 where
  pub is_way : IsWay T h way
  pub domain : h.domain ≡ way.placed.domain.id
  pub relates : Relates T h way.placed.element
  pub class : u.class ≡ way.from.id

-- The second condition: labels

-- The element's label rule: a link keeps the label, which is in its own set if it has one; a switching service keeps it unless it
-- swaps labels; the others take any label to any.
abbrev pub KeepsLabel : Hop → Element → Type 0
KeepsLabel h (element.Link l) = (h.to_label ≡ h.from_label) × IsCarried l.labels h.from_label
KeepsLabel h (element.Switching s) = IsTrue s.swapping ⊎ (h.to_label ≡ h.from_label)
KeepsLabel h (element.Adaptation a) = Unit {0}
KeepsLabel h (element.Deadaptation a) = Unit {0}
KeepsLabel h (element.Conversion c) = Unit {0}
KeepsLabel h (element.Node n) = Unit {0}
KeepsLabel h (element.Port p) = Unit {0}

-- the unit has the from label, both places are open, and the label rule holds
pub record FitsLabels (T : Topology) (u : DataUnit) (h : Hop) (way : Way) : Type 0 where
  pub label : u.label ≡ h.from_label
  pub leaves : IsOpen T way.from h.from_label
  pub enters : IsOpen T way.to h.to_label
  pub rule : KeepsLabel h way.placed.element

-- The third condition: the frame that comes off

-- the frame is the last of the stack
abbrev pub IsOnTop : Frame → List Frame → Type 0
IsOnTop frame stack = (below : List Frame) × (stack ≡ below ++ frame ∷ [])

-- what the element takes off is on top: of a deadaptation the frame of its function and the to place
abbrev pub TakesTop : Hop → Port → Element → List Frame → Type 0
TakesTop h to (element.Deadaptation a) stack = IsOnTop (frame_of a.function to h.to_label) stack
TakesTop h to (element.Link l) stack = Unit {0}
TakesTop h to (element.Switching s) stack = Unit {0}
TakesTop h to (element.Adaptation a) stack = Unit {0}
TakesTop h to (element.Conversion c) stack = Unit {0}
TakesTop h to (element.Node n) stack = Unit {0}
TakesTop h to (element.Port p) stack = Unit {0}

-- what the hop takes off is on top of the unit's stack
abbrev pub FitsFrame : DataUnit → Hop → Way → Type 0
FitsFrame u h way = TakesTop h way.to way.placed.element u.stack

-- The hop fits the unit: all three conditions hold.
pub record Fits (T : Topology) (u : DataUnit) (h : Hop) (way : Way) : Type 0 where
  pub related : IsRelated T u h way
  pub labels : FitsLabels T u h way
  pub frame : FitsFrame u h way

-- The fourth condition: room

-- what the hop puts on the stack has room there
abbrev pub HasRoom : ℕ → DataUnit → Hop → Type 0
HasRoom room u h = h.kind ≡ kind.Adapt → length u.stack < room

-- The table of refusals. Want of memory comes where all four conditions hold.
abbrev pub IsRefused : Topology → ℕ → DataUnit → Hop → StepFault → Type 0
IsRefused T room u h NoHop = (way : Way) → ¬ IsRelated T u h way
IsRefused T room u h Label = (way : Way) × IsRelated T u h way × (¬ FitsLabels T u h way)
IsRefused T room u h NoFrame = (way : Way) × IsRelated T u h way × FitsLabels T u h way × (¬ FitsFrame u h way)
IsRefused T room u h Full = (way : Way) × Fits T u h way × (¬ HasRoom room u h)
IsRefused T room u h NoMemory = (way : Way) × Fits T u h way × HasRoom room u h

-- Where the hop leads

-- the stack behind the element: with one frame more, with one frame less, or as it was
abbrev pub stack_after : Hop → Port → Element → List Frame → List Frame
stack_after h from (element.Adaptation a) stack = stack ++ frame_of a.function from h.from_label ∷ []
stack_after h from (element.Deadaptation a) stack = take (length stack - 1) stack
stack_after h from (element.Link l) stack = stack
stack_after h from (element.Switching s) stack = stack
stack_after h from (element.Conversion c) stack = stack
stack_after h from (element.Node n) stack = stack
stack_after h from (element.Port p) stack = stack

-- the unit behind the hop
abbrev pub unit_after : Hop → Way → DataUnit → DataUnit
unit_after h way u = record {
  class = way.to.id;
  label = h.to_label;
  stack = stack_after h way.from way.placed.element u.stack;
}

-- The unit has a next one exactly where the hop fits it.
abbrev pub StepsWhereFitting : Topology → DataUnit → Hop → Type 0
StepsWhereFitting T u h = ((v : DataUnit) × Step T u h v) ↔ ((way : Way) × Fits T u h way)

-- what a refusal says of a next unit: that there is none, or that there is one
abbrev pub TellsOfSteps : Topology → DataUnit → Hop → StepFault → Type 0
TellsOfSteps T u h NoHop = (v : DataUnit) → ¬ Step T u h v
TellsOfSteps T u h Label = (v : DataUnit) → ¬ Step T u h v
TellsOfSteps T u h NoFrame = (v : DataUnit) → ¬ Step T u h v
TellsOfSteps T u h Full = (v : DataUnit) × Step T u h v
TellsOfSteps T u h NoMemory = (v : DataUnit) × Step T u h v

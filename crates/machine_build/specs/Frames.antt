-- Frames by numbers, and what an element's steps do with them.
use Rattle.std.specs.Prelude.{◌≡◌, ℕ, List, ◌++◌, Some, slice_get}
use Rattle.ml_base.specs.declared.numbers.FrameNo.{FrameNo}
use Rattle.nml_elements.specs.declared.elements.Element.{Element}
use Rattle.nml_elements.specs.declared.elements.Element.TheVariants as element
use Rattle.circuit_spec.specs.declared.hops.Frame.{Frame}
use Rattle.circuit_spec.specs.Network.{Name, Tag, Topology, Port, IsClass, ports}
use Rattle.circuit_spec.specs.Steps.{cost_of_element, frame_of}
use Rattle.adapt_machine.specs.declared.MachineKind.{MachineKind}
use Rattle.adapt_machine.specs.declared.MachineKind.TheVariants.{Flat, Push, Pop}
use Rattle.machine_build.specs.declared.ways.Effect.{Effect}

-- the list goes on
abbrev pub GoesOn : {A : Type 0} → List A → List A → Type 0
GoesOn {A} old new = (more : List A) × (new ≡ old ++ more)

-- the frame has this number, and no number changes
pub record HasNumbered {A : Type 0} (old new : List A) (frame : A) (number : ℕ) : Type 0 where
  pub on : GoesOn old new
  pub at : slice_get new number ≡ Some frame

-- no two are equal
abbrev pub AreApart : {A : Type 0} → List A → Type 0
AreApart {A} frames = (f g : ℕ) (frame : A) → slice_get frames f ≡ Some frame → slice_get frames g ≡ Some frame → f ≡ g

-- the class of the port of a number
pub record HasClass (T : Topology) (number : ℕ) (class : Port) : Type 0 where
  pub port : Port
  pub port_at : slice_get (ports T) number ≡ Some port
  pub is_class : IsClass T port.id class

-- the frame of a function and of a place of the port's class
pub record IsFrameAt (T : Topology) (number : ℕ) (function : Name) (label : Tag) (frame : Frame) : Type 0 where
  pub class : Port
  pub has_class : HasClass T number class
  pub is : frame ≡ frame_of function class label

-- the number is that of such a frame
pub record IsNumberOf (T : Topology) (frames : List Frame) (port : ℕ) (function : Name) (label : Tag) (number : FrameNo) : Type 0 where
  pub frame : Frame
  pub is_frame : IsFrameAt T port function label frame
  pub at : slice_get frames number.0 ≡ Some frame

-- the kind of an element's steps
abbrev pub step_kind : Element → MachineKind
step_kind (element.Adaptation a) = Push
step_kind (element.Deadaptation a) = Pop
step_kind (element.Link l) = Flat
step_kind (element.Switching s) = Flat
step_kind (element.Conversion c) = Flat
step_kind (element.Node n) = Flat
step_kind (element.Port p) = Flat

-- where the element adapts or undoes that, the frame of this number is that of its function and its client's place
abbrev pub IsFramed : List Frame → Element → Port → Tag → ℕ → Type 0
IsFramed frames (element.Adaptation a) class label number = slice_get frames number ≡ Some (frame_of a.function class label)
IsFramed frames (element.Deadaptation a) class label number = slice_get frames number ≡ Some (frame_of a.function class label)
IsFramed frames (element.Link l) class label number = Unit {0}
IsFramed frames (element.Switching s) class label number = Unit {0}
IsFramed frames (element.Conversion c) class label number = Unit {0}
IsFramed frames (element.Node n) class label number = Unit {0}
IsFramed frames (element.Port p) class label number = Unit {0}

-- what the steps of an element do that take a unit from the near place, or to it where they take a frame off
pub record IsEffect (T : Topology) (frames : List Frame) (e : Element) (near : ℕ) (label : Tag) (x : Effect) : Type 0 where
  pub class : Port
  pub has_class : HasClass T near class
  pub kind_is : x.kind ≡ step_kind e
  pub cost_is : x.cost ≡ cost_of_element e
  pub framed : IsFramed frames e class label x.frame.0

-- The ends of a request, and whether a unit has arrived.
use Rattle.std.specs.Prelude.{◌≡◌, ℕ, List, [], IsTrue, Some, slice_get}
use Rattle.label_sets.specs.Ranges.{has}
use Rattle.ml_base.specs.declared.numbers.Wish.{Wish}
use Rattle.nml_elements.specs.declared.elements.Labels.{Labels}
use Rattle.nml_elements.specs.declared.elements.Labels.TheVariants.{Unlabelled, Of}
use Rattle.circuit_spec.specs.declared.hops.Request.{Request}
use Rattle.circuit_spec.specs.declared.hops.Unit.{Unit as DataUnit}
use Rattle.circuit_spec.specs.Network.{Name, Tag, Topology, Port, IsClass, IsOpen, ports}
use Rattle.circuit_spec.specs.Steps.{IsWished}

-- the port of the number names its class
pub record IsClassAt (T : Topology) (number : ℕ) (class : Port) : Type 0 where
  pub at : slice_get (ports T) number ≡ Some class
  pub own : IsClass T class.id class

-- the port of the number is the class of the port of the id
pub record IsClassOf (T : Topology) (id : Name) (number : ℕ) : Type 0 where
  pub class : Port
  pub at : slice_get (ports T) number ≡ Some class
  pub is_class : IsClass T id class

-- the port's class has this name
abbrev pub IsNamedClass : Topology → Name → Name → Type 0
IsNamedClass T id name = (class : Port) × IsClass T id class × (name ≡ class.id)

-- the unit is in the class of TO, with a label that is wished there and the empty stack
pub record IsAtEnd (T : Topology) (r : Request) (u : DataUnit) : Type 0 where
  pub empty : u.stack ≡ []
  pub wished : IsWished r.to_wish u.label
  pub class : IsNamedClass T r.to u.class

-- a class with these labels has an open place
abbrev pub HasPlace : Labels → Type 0
HasPlace Unlabelled = Unit {0}
HasPlace (Of labeltype set) = (label : ℕ) × IsTrue (has set label)

-- an open place of the class is wished
abbrev pub HasWished : Topology → Port → Wish → Type 0
HasWished T class wish = (label : Tag) × IsOpen T class label × IsWished wish label

-- an open place of the class is as both wishes say
abbrev pub DoAgree : Topology → Port → Wish → Wish → Type 0
DoAgree T class one other = (label : Tag) × IsOpen T class label × IsWished one label × IsWished other label

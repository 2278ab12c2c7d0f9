-- The open places of a network whose label, if any, is in a table: the states of a machine.
--   IsStatePlace    an open place whose label, if any, is in the table
--   IsRising        the order of the places
--   ArePlaces       all of them, in their order, with the span of each port's class
use Rattle.std.specs.Prelude.{◌≡◌, ◌↔◌, ℕ, ◌<◌, ◌≤◌, List, None, Some, length, slice_get}
use Rattle.std.specs.List.{Contains}
use Rattle.std.specs.List.Sorted.{IsStrictlySortedBy}
use Rattle.std.specs.declared.cmp.Ordering.{Ordering}
use Rattle.std.specs.Ordering.{nat_cmp, ordering_then}
use Rattle.std.specs.Option.{option_cmp}
use Rattle.std.specs.Cmp.Lexicographic.{slice_cmp}
use Rattle.label_atoms.specs.Pieces.{IsAmong}
use Rattle.circuit_spec.specs.declared.hops.PlaceName.{PlaceName}
use Rattle.circuit_spec.specs.Network.{Name, Tag, Topology, Port, IsClass, IsOpen, label_type, ports}
use Rattle.kept_table.specs.Table.{KeptOfType, labels_in}
use Rattle.open_places.specs.declared.span.Span.{Span}

-- there is no label, or the table has it at the class's label type
abbrev pub IsListed : List KeptOfType → Port → Tag → Type 0
IsListed table class None = Unit {0}
IsListed table class (Some label) = (labeltype : Name) × (label_type class.labels ≡ Some labeltype) × IsAmong (labels_in table labeltype) label

-- an open place, by the name of its class, whose label, if any, is in the table
pub record IsStatePlace (T : Topology) (table : List KeptOfType) (place : PlaceName) : Type 0 where
  pub class : Port
  pub named : class.id ≡ place.class
  pub is_class : IsClass T place.class class
  pub is_open : IsOpen T class place.label
  pub listed : IsListed table class place.label

-- by class name in byte order, then no label, then the label as a number
abbrev pub place_cmp : PlaceName → PlaceName → Ordering
place_cmp a b = ordering_then (slice_cmp nat_cmp a.class b.class) (option_cmp nat_cmp a.label b.label)

-- each place is before each later one
abbrev pub IsRising : List PlaceName → Type 0
IsRising places = IsStrictlySortedBy place_cmp places

-- the states, in their order, and the span of the states of each port's class
pub record PlacesValue : Type 0 where
  pub places : List PlaceName
  pub spans : List Span

-- exactly the state places, each once, in their order; beside each port the span of its class
pub record ArePlaces (T : Topology) (table : List KeptOfType) (v : PlacesValue) : Type 0 where
  pub rise : IsRising v.places
  pub are : (place : PlaceName) → Contains v.places place ↔ IsStatePlace T table place
  pub long : length v.spans ≡ length (ports T)
  pub spans_are : (number : ℕ) (p class : Port) (span : Span) → slice_get (ports T) number ≡ Some p → IsClass T p.id class → slice_get v.spans number ≡ Some span
      → (state : ℕ) (place : PlaceName) → slice_get v.places state ≡ Some place
      → (place.class ≡ class.id) ↔ ((span.first ≤ state) × (state < span.end))

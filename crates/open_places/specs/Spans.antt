-- Spans of states of one class.
use Rattle.std.specs.Prelude.{◌≡◌, ◌↔◌, ℕ, ◌<◌, ◌≤◌, List, Some, length, slice_get}
use Rattle.circuit_spec.specs.declared.hops.PlaceName.{PlaceName}
use Rattle.circuit_spec.specs.Network.{Name, Tag, Topology, Port, IsClass, ports}
use Rattle.open_places.specs.Places.{PlacesValue, IsRising}
use Rattle.open_places.specs.declared.span.Span.{Span}

-- the states of the span are there, and are those of the class of this name
pub record IsClassSpan (places : List PlaceName) (class : Name) (span : Span) : Type 0 where
  pub proper : span.first ≤ span.end
  pub within : span.end ≤ length places
  pub of_class : (state : ℕ) (place : PlaceName) → slice_get places state ≡ Some place → (place.class ≡ class) ↔ ((span.first ≤ state) × (state < span.end))

-- the places rise, and each span is that of a class
pub record AreStates (places : List PlaceName) (spans : List Span) : Type 0 where
  pub rise : IsRising places
  pub spans_are : (number : ℕ) (span : Span) → slice_get spans number ≡ Some span → (class : Name) × IsClassSpan places class span

-- the span is that of a port
abbrev pub IsSpanOf : PlacesValue → Span → Type 0
IsSpanOf v span = (number : ℕ) × (slice_get v.spans number ≡ Some span)

-- a state of the span whose place has this label
pub record IsLabelled (v : PlacesValue) (span : Span) (label : Tag) (state : ℕ) : Type 0 where
  pub first : span.first ≤ state
  pub end : state < span.end
  pub place : PlaceName
  pub at : slice_get v.places state ≡ Some place
  pub labelled : place.label ≡ label

-- the span of the class of the port of this number
pub record IsPortSpan (T : Topology) (places : List PlaceName) (number : ℕ) (span : Span) : Type 0 where
  pub port : Port
  pub class : Port
  pub at : slice_get (ports T) number ≡ Some port
  pub is_class : IsClass T port.id class
  pub of_class : IsClassSpan places class.id span

-- beside each of the first ports the span of its class
pub record AreSpans (T : Topology) (places : List PlaceName) (count : ℕ) (spans : List Span) : Type 0 where
  pub long : length spans ≡ count
  pub each : (number : ℕ) (span : Span) → slice_get spans number ≡ Some span → IsPortSpan T places number span

-- The places of classes, one class after the other.
use Rattle.std.specs.Prelude.{◌≡◌, ◌↔◌, ◌⊎◌, ℕ, ◌<◌, List, Some, map, filter, slice_get}
use Rattle.std.specs.List.{Contains, flat_map}
use Rattle.label_sets.specs.Ranges.{is_within}
use Rattle.circuit_spec.specs.declared.hops.PlaceName.{PlaceName}
use Rattle.circuit_spec.specs.Network.{Name, Topology, Port, IsClass, IsOpen, ports}
use Rattle.kept_table.specs.Table.{KeptOfType}
use Rattle.open_places.specs.Places.{IsListed}

-- the place of the class at each of the labels
abbrev pub labelled : Name → List ℕ → List PlaceName
labelled class labels = map (λ label. record { class = class; label = Some label }) labels

-- the same at those labels that are in the ranges
abbrev pub within_ranges : Name → List ℕ → List (ℕ × ℕ) → List PlaceName
within_ranges class labels ranges = flat_map (λ range. labelled class (filter (is_within range) labels)) ranges

-- a state place of the class that the port of this number names, if it names one
pub record IsPlaceOf (T : Topology) (table : List KeptOfType) (number : ℕ) (place : PlaceName) : Type 0 where
  pub class : Port
  pub at : slice_get (ports T) number ≡ Some class
  pub is_class : IsClass T class.id class
  pub named : class.id ≡ place.class
  pub is_open : IsOpen T class place.label
  pub listed : IsListed table class place.label

-- the new list has what the old one has, and all of which R holds, and nothing else
abbrev pub Adds : (PlaceName → Type 0) → List PlaceName → List PlaceName → Type 0
Adds R old new = (place : PlaceName) → Contains new place ↔ (Contains old place ⊎ R place)

-- the state places of the classes that the first ports name
abbrev pub AreGathered : Topology → List KeptOfType → ℕ → List PlaceName → Type 0
AreGathered T table count places = (place : PlaceName) → Contains places place ↔ ((number : ℕ) × (number < count) × IsPlaceOf T table number place)

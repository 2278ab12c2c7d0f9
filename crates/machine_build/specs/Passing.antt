-- States of a class that are passed over, since an element takes none of their labels.
use Rattle.std.specs.Prelude.{◌≡◌, ◌⊎◌, ℕ, ◌+◌, ◌<◌, ◌≤◌, List, Bool, true, false, None, Some, nat_lt, slice_get}
use Rattle.nml_elements.specs.declared.elements.Element.{Element}
use Rattle.circuit_spec.specs.declared.hops.PlaceName.{PlaceName}
use Rattle.circuit_spec.specs.Network.{Name, Tag}
use Rattle.label_sets.specs.Ranges.{has}
use Rattle.machine_build.specs.Ways.{takes}

-- whether the label, if any, is below this one
abbrev pub is_below : Tag → ℕ → Bool
is_below None label = true
is_below (Some other) label = nat_lt other label

-- the state just before has a label below this one
pub record FollowsBelow (places : List PlaceName) (label state : ℕ) : Type 0 where
  pub before : ℕ
  pub place : PlaceName
  pub next : state ≡ before + 1
  pub at : slice_get places before ≡ Some place
  pub below : is_below place.label label ≡ true

-- the two are states from the first to the end, and where the lower one is not the first, it follows a label below this one
pub record AreBounds (places : List PlaceName) (label first end low high : ℕ) : Type 0 where
  pub from : first ≤ low
  pub proper : low ≤ high
  pub to : high ≤ end
  pub passed : (low ≡ first) ⊎ FollowsBelow places label low

-- the set has nothing from the one label on and below the other
abbrev pub HasNoneBetween : List (ℕ × ℕ) → ℕ → ℕ → Type 0
HasNoneBetween set low high = (label : ℕ) → low ≤ label → label < high → has set label ≡ false

-- the set has nothing from the label on
abbrev pub HasNoneFrom : List (ℕ × ℕ) → ℕ → Type 0
HasNoneFrom set low = (label : ℕ) → low ≤ label → has set label ≡ false

-- the states from the one on and before the other are of one class
abbrev pub AreAlike : List PlaceName → ℕ → ℕ → Type 0
AreAlike places first end = (class : Name) × ((state : ℕ) (place : PlaceName) → slice_get places state ≡ Some place → first ≤ state → state < end → place.class ≡ class)

-- the element takes none of the labels of these states
abbrev pub AreNotTaken : List PlaceName → Element → ℕ → ℕ → Type 0
AreNotTaken places e first end = (state : ℕ) (place : PlaceName) → slice_get places state ≡ Some place → first ≤ state → state < end → takes e place.label ≡ false

-- The places of a walk, and which visit of each was the first.
use Rattle.std.specs.Prelude.{◌≡◌, ℕ, List, Option, None, Some, position}
use Rattle.std.specs.BTreeMap as tree
use Rattle.std.specs.Ordering.{nat_cmp, ordering_then}
use Rattle.std.specs.Cmp.Lexicographic.{slice_cmp}
use Rattle.std.specs.declared.collections.BTreeMap.{BTreeMap}
use Rattle.std.specs.declared.alloc.Global.{Global}
use Rattle.std.specs.declared.cmp.Ordering.{Ordering}
use Rattle.std.specs.declared.cmp.Ordering.TheVariants.{Less, Equal, Greater}
use Rattle.circuit_spec.specs.declared.hops.Hop.{Hop}
use Rattle.circuit_spec.specs.declared.hops.PlaceName.{PlaceName}
use Rattle.circuit_spec.specs.Network.{Tag, Topology, Port, IsClass}
use Rattle.circuit_spec.specs.Flags.{same_place}

abbrev pub tag_cmp : Tag → Tag → Ordering
tag_cmp None None = Equal
tag_cmp None (Some n) = Less
tag_cmp (Some m) None = Greater
tag_cmp (Some m) (Some n) = nat_cmp m n

abbrev pub place_cmp : PlaceName → PlaceName → Ordering
place_cmp x y = ordering_then (slice_cmp nat_cmp x.class y.class) (tag_cmp x.label y.label)

-- the number of the first visit of a place, if it was visited
abbrev pub first_at : BTreeMap PlaceName ℕ Global → PlaceName → Option ℕ
first_at visited place = tree.get place_cmp visited place

-- the places before were visited, each first at the number that it has among them
abbrev pub AreVisits : List PlaceName → BTreeMap PlaceName ℕ Global → Type 0
AreVisits before visited = (place : PlaceName) → first_at visited place ≡ position (same_place place) before

-- the hop enters the place
abbrev pub EntersPlace : Topology → Hop → PlaceName → Type 0
EntersPlace T h place = (class : Port) × IsClass T h.to class × (place ≡ record { class = class.id; label = h.to_label })

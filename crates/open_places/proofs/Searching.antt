-- What binary searches in rising places find.
use Rattle.std.proofs.Common.{◌≡◌, ◌∙◌, refl, sym, ap, ℕ, ◌+◌, ◌-◌, ◌<◌, ◌≤◌, List, length, get_or, Bool, true, false, Some, arith, Ordering, Less, Equal, Greater}
use Rattle.std.specs.Prelude.{slice_get, nat_lt, slice_range, drop}
use Rattle.std.specs.List.{Contains, HoldsAt}
use Rattle.std.specs.List.Sorted.{IsNonDecreasingBy, IsPartitionPoint}
use Rattle.std.specs.Ordering.{nat_cmp, ordering_index}
use Rattle.std.specs.Option.{option_cmp}
use Rattle.std.specs.Cmp.Lexicographic.{options_total}
use Rattle.std.proofs.lemmas.List.{get_or-take, get_or-drop, length-take-le, length-drop}
use Rattle.std.proofs.lemmas.Cmp.{nat_cmp_total, tied_itself}
use Rattle.std.proofs.lemmas.Bool.Decides.{nat_tests}
use Rattle.std.proofs.lemmas.Option.{slice_get-get_or, get_or_from_slice_get}
use Rattle.circuit_spec.specs.declared.hops.PlaceName.{PlaceName}
use Rattle.circuit_spec.specs.Network.{Name, Tag}
use Rattle.open_places.specs.declared.span.Span.{Span}
use Rattle.open_places.specs.Places.{PlacesValue, place_cmp, IsRising}
use Rattle.open_places.specs.Spans.{IsClassSpan, IsLabelled}
use Rattle.open_places.proofs.Ordered.{below_at, rises, rank_below, place_total, exact_places, exact_tags, labels_below}

-- the place that a search finds
pub state_found : (places : List PlaceName) (place : PlaceName) (i : ℕ) → i < length places → HoldsAt (λ (y : PlaceName). place_cmp y place ≡ Equal) places i → slice_get places i ≡ Some place
state_found places place i h at = slice_get-get_or places i place h ∙ ap Some (exact_places (get_or places i place) place (at place))

-- nothing is where a search by an order that is met finds nothing
none_met : {K : Type 0} (f : K → Ordering) (xs : List K) (i k : ℕ) (x : K) → IsPartitionPoint (λ (y : K). f y ≡ Less) (λ (y : K). f y ≡ Greater) xs i → k < length xs → f (get_or xs k x) ≡ Equal → ⊥
none_met f xs i k x point h tie = by_test (nat_lt k i) refl
  where
    by_test : (t : Bool) → nat_lt k i ≡ t → ⊥
    by_test true e =
        let less : f (get_or xs k x) ≡ Less = point.0 k x (omega arith) (grind (arith, nat_tests)) in
        cc
    by_test false e =
        let greater : f (get_or xs k x) ≡ Greater = point.1 k x (grind (arith, nat_tests)) h in
        cc

-- a place that it does not find is not there
pub state_missed : (places : List PlaceName) (place : PlaceName) (i : ℕ) → IsRising places
    → (IsNonDecreasingBy (λ (y : PlaceName). ordering_index (place_cmp y place)) places → IsPartitionPoint (λ (y : PlaceName). place_cmp y place ≡ Less) (λ (y : PlaceName). place_cmp y place ≡ Greater) places i)
    → Contains places place → ⊥
state_missed places place i rise parted held =
    let point = parted (rises place_cmp (λ (y : PlaceName). ordering_index (place_cmp y place)) places (λ m n d lt h. rank_below place_total (get_or places m d) (get_or places n d) place (below_at place_cmp places m n d rise lt h))) in
    none_met (λ (y : PlaceName). place_cmp y place) places i held.0 place point held.1 (ap (λ (p : PlaceName). place_cmp p place) held.2 ∙ tied_itself place_total place)

-- ---- in a span

-- the items of a part of a list are those of the list from its beginning on
pub part_at : {K : Type 0} (xs : List K) (a b k : ℕ) (d : K) → a + k < b → get_or (slice_range xs a b) k d ≡ get_or xs (a + k) d
part_at xs a b k d h = get_or-take (b - a) (drop a xs) k d (omega arith) ∙ get_or-drop a xs k d

part_long : {K : Type 0} (xs : List K) (a b : ℕ) → a ≤ b → b ≤ length xs → length (slice_range xs a b) ≡ b - a
part_long xs a b ab h = length-take-le (b - a) (drop a xs) (omega (arith, length-drop a xs))

abbrev pub by_label : Tag → PlaceName → Ordering
by_label label y = option_cmp nat_cmp y.label label

pub label_found : (v : PlacesValue) (span : Span) (label : Tag) (states : List PlaceName) (k : ℕ) (class : Name) → IsClassSpan v.places class span → states ≡ slice_range v.places span.first span.end
    → k < length states → HoldsAt (λ (y : PlaceName). by_label label y ≡ Equal) states k → IsLabelled v span label (span.first + k)
label_found v span label states k class is part h at =
    let long : length states ≡ span.end - span.first = ap length part ∙ part_long v.places span.first span.end is.proper is.within in
    let within : span.first + k < span.end = omega arith in
    let d : PlaceName = record { class = class; label = label } in
    record {
      first = omega arith;
      end = within;
      place = get_or v.places (span.first + k) d;
      at = slice_get-get_or v.places (span.first + k) d (omega (arith, is.within));
      labelled = exact_tags _ label (ap (by_label label) (sym (ap (λ (xs : List PlaceName). get_or xs k d) part ∙ part_at v.places span.first span.end k d within)) ∙ at d);
    }

pub label_missed : (v : PlacesValue) (span : Span) (label : Tag) (states : List PlaceName) (i : ℕ) (class : Name) → IsRising v.places → IsClassSpan v.places class span → states ≡ slice_range v.places span.first span.end
    → (IsNonDecreasingBy (λ (y : PlaceName). ordering_index (by_label label y)) states → IsPartitionPoint (λ (y : PlaceName). by_label label y ≡ Less) (λ (y : PlaceName). by_label label y ≡ Greater) states i)
    → (state : ℕ) → IsLabelled v span label state → ⊥
label_missed v span label states i class rise is part parted state has =
    none_met (by_label label) states i (state - span.first) has.place (parted (rises place_cmp (λ (y : PlaceName). ordering_index (by_label label y)) states up)) (omega (arith, long, has.first, has.end)) met
  where
    long : length states ≡ span.end - span.first
    long = ap length part ∙ part_long v.places span.first span.end is.proper is.within

    read : (k : ℕ) (d : PlaceName) → span.first + k < span.end → get_or states k d ≡ get_or v.places (span.first + k) d
    read k d h = ap (λ (xs : List PlaceName). get_or xs k d) part ∙ part_at v.places span.first span.end k d h

    class_at : (k : ℕ) (d : PlaceName) → span.first + k < span.end → (get_or states k d).class ≡ class
    class_at k d h =
        let there : slice_get v.places (span.first + k) ≡ Some (get_or states k d) = slice_get-get_or v.places (span.first + k) d (omega (arith, is.within)) ∙ ap Some (sym (read k d h)) in
        (is.of_class (span.first + k) (get_or states k d) there).1 (omega arith, h)

    up : (m n : ℕ) (d : PlaceName) → m < n → n < length states → ordering_index (by_label label (get_or states m d)) ≤ ordering_index (by_label label (get_or states n d))
    up m n d lt h =
        let below : place_cmp (get_or states m d) (get_or states n d) ≡ Less =
        ap (λ (p : PlaceName). place_cmp p (get_or states n d)) (read m d (omega (arith, long)))
        ∙ ap (place_cmp (get_or v.places (span.first + m) d)) (read n d (omega (arith, long)))
        ∙ below_at place_cmp v.places (span.first + m) (span.first + n) d rise (omega arith) (omega (arith, long, is.within)) in
        rank_below (options_total nat_cmp_total) (get_or states m d).label (get_or states n d).label label
        (labels_below (get_or states m d) (get_or states n d) below (class_at m d (omega (arith, long)) ∙ sym (class_at n d (omega (arith, long)))))

    met : by_label label (get_or states (state - span.first) has.place) ≡ Equal
    met =
        let place_is : span.first + (state - span.first) ≡ state = omega (arith, has.first) in
        let found : get_or states (state - span.first) has.place ≡ has.place =
        read (state - span.first) has.place (omega (arith, has.first, has.end))
        ∙ ap (λ (k : ℕ). get_or v.places k has.place) place_is
        ∙ get_or_from_slice_get v.places state has.place has.place has.at in
        ap (by_label label) found ∙ ap (λ (l : Tag). option_cmp nat_cmp l label) has.labelled ∙ tied_itself (options_total nat_cmp_total) label

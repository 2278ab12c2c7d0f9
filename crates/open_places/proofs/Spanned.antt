-- The span of a class in rising places, by two binary searches.
use Rattle.std.proofs.Common.{◌≡◌, ◌∙◌, refl, sym, ap, subst, ℕ, ◌<◌, ◌≤◌, List, length, get_or, Bool, true, false, None, Some, arith, Ordering, Less, Equal, Greater}
use Rattle.std.specs.Prelude.{slice_get, nat_lt}
use Rattle.std.specs.List.Sorted.{IsNonDecreasingBy, IsPartitionPoint, IsPartitionedBy}
use Rattle.std.specs.Ordering.{nat_cmp, ordering_index, is_lt, is_le}
use Rattle.std.specs.Cmp.Lexicographic.{slice_cmp, nat_list_cmp_total}
use Rattle.std.proofs.lemmas.Cmp.{tied_itself}
use Rattle.std.proofs.lemmas.Bool.Decides.{nat_tests}
use Rattle.std.proofs.lemmas.Map.Lookups.{exact_bytes}
use Rattle.std.proofs.lemmas.Option.{get_or_from_slice_get, slice_get_within}
use Rattle.circuit_spec.specs.declared.hops.PlaceName.{PlaceName}
use Rattle.circuit_spec.specs.Network.{Name}
use Rattle.open_places.specs.Places.{place_cmp, IsRising}
use Rattle.open_places.specs.Spans.{IsClassSpan}
use Rattle.open_places.proofs.Ordered.{below_at, rises, rank_below, first_below}

abbrev pub by_class : Name → PlaceName → Ordering
by_class class y = slice_cmp nat_cmp y.class class

-- a lesser place does not have a greater class
class_rank : (class : Name) (a b : PlaceName) → place_cmp a b ≡ Less → ordering_index (by_class class a) ≤ ordering_index (by_class class b)
class_rank class a b lt = by_order (slice_cmp nat_cmp a.class b.class) refl (first_below a b lt)
  where
    by_order : (o : Ordering) → slice_cmp nat_cmp a.class b.class ≡ o → ordering_index o ≤ 1 → ordering_index (by_class class a) ≤ ordering_index (by_class class b)
    by_order Less e h = rank_below nat_list_cmp_total a.class b.class class e
    by_order Equal e h = subst (λ (o : Ordering). ordering_index (by_class class a) ≤ ordering_index o) (nat_list_cmp_total.congr a.class b.class class e) (omega arith)
    by_order Greater e h = absurd (omega arith)

pub classes_rise : (class : Name) (places : List PlaceName) → IsRising places → IsNonDecreasingBy (λ (y : PlaceName). ordering_index (by_class class y)) places
classes_rise class places rise =
    rises place_cmp (λ (y : PlaceName). ordering_index (by_class class y)) places
    (λ i j d lt h. class_rank class (get_or places i d) (get_or places j d) (below_at place_cmp places i j d rise lt h))

lt_falls : (p q : Ordering) → ordering_index p ≤ ordering_index q → is_lt q ≡ true → is_lt p ≡ true
lt_falls Less q le h = refl
lt_falls Equal Less le h = absurd (omega arith)
lt_falls Equal Equal le h = h
lt_falls Equal Greater le h = cc
lt_falls Greater Less le h = absurd (omega arith)
lt_falls Greater Equal le h = cc
lt_falls Greater Greater le h = h

le_falls : (p q : Ordering) → ordering_index p ≤ ordering_index q → is_le q ≡ true → is_le p ≡ true
le_falls Less q le h = refl
le_falls Equal q le h = refl
le_falls Greater Less le h = absurd (omega arith)
le_falls Greater Equal le h = absurd (omega arith)
le_falls Greater Greater le h = h

pub below_parted : (class : Name) (places : List PlaceName) → IsRising places → IsPartitionedBy (λ (y : PlaceName). is_lt (by_class class y)) places
below_parted class places rise i j d le h held = lt_falls (by_class class (get_or places i d)) (by_class class (get_or places j d)) (classes_rise class places rise i j d le h) held

pub upto_parted : (class : Name) (places : List PlaceName) → IsRising places → IsPartitionedBy (λ (y : PlaceName). is_le (by_class class y)) places
upto_parted class places rise i j d le h held = le_falls (by_class class (get_or places i d)) (by_class class (get_or places j d)) (classes_rise class places rise i j d le h) held

tie_of : (o : Ordering) → is_lt o ≡ false → is_le o ≡ true → o ≡ Equal
tie_of Less p q = cc
tie_of Equal p q = refl
tie_of Greater p q = cc

lt_le : (o : Ordering) → is_lt o ≡ true → is_le o ≡ true
lt_le Less p = refl
lt_le Equal p = cc
lt_le Greater p = cc

-- the span between the two points
pub span_found : (places : List PlaceName) (class : Name) (first end : ℕ) → IsRising places → first ≤ length places → end ≤ length places
    → IsPartitionPoint (λ (y : PlaceName). is_lt (by_class class y) ≡ true) (λ (y : PlaceName). is_lt (by_class class y) ≡ false) places first
    → IsPartitionPoint (λ (y : PlaceName). is_le (by_class class y) ≡ true) (λ (y : PlaceName). is_le (by_class class y) ≡ false) places end
    → IsClassSpan places class (record { first = first; end = end })
span_found places class first end rise fh eh low high = record {
  proper = proper (nat_lt end first) refl;
  within = eh;
  of_class = λ state place at. (to state place at, from state place at);
}
  where
    test_at : (f : Ordering → Bool) (state : ℕ) (place : PlaceName) → slice_get places state ≡ Some place → f (by_class class place) ≡ f (by_class class (get_or places state place))
    test_at f state place at = ap (λ (p : PlaceName). f (by_class class p)) (sym (get_or_from_slice_get places state place place at))

    proper : (t : Bool) → nat_lt end first ≡ t → first ≤ end
    proper false e = grind (arith, nat_tests)
    proper true e =
        let lt : end < first = grind (arith, nat_tests) in
        let d : PlaceName = record { class = class; label = None } in
        let less : is_lt (by_class class (get_or places end d)) ≡ true = low.0 end d (omega arith) lt in
        let not_le : is_le (by_class class (get_or places end d)) ≡ false = high.1 end d (omega arith) (omega (arith, fh)) in
        let upto : is_le (by_class class (get_or places end d)) ≡ true = lt_le (by_class class (get_or places end d)) less in
        absurd cc

    to : (state : ℕ) (place : PlaceName) → slice_get places state ≡ Some place → place.class ≡ class → (first ≤ state) × (state < end)
    to state place at same = (at_least (nat_lt state first) refl, below (nat_lt state end) refl)
      where
        tie : by_class class place ≡ Equal
        tie = ap (λ (c : Name). slice_cmp nat_cmp c class) same ∙ tied_itself nat_list_cmp_total class

        at_least : (t : Bool) → nat_lt state first ≡ t → first ≤ state
        at_least false e = grind (arith, nat_tests)
        at_least true e =
            let less : is_lt (by_class class place) ≡ true = test_at is_lt state place at ∙ low.0 state place (omega arith) (grind (arith, nat_tests)) in
            let not_less : is_lt (by_class class place) ≡ false = ap is_lt tie in
            absurd cc

        below : (t : Bool) → nat_lt state end ≡ t → state < end
        below true e = grind (arith, nat_tests)
        below false e =
            let not_le : is_le (by_class class place) ≡ false = test_at is_le state place at ∙ high.1 state place (grind (arith, nat_tests)) (slice_get_within places state place at) in
            let le : is_le (by_class class place) ≡ true = ap is_le tie in
            absurd cc

    from : (state : ℕ) (place : PlaceName) → slice_get places state ≡ Some place → (first ≤ state) × (state < end) → place.class ≡ class
    from state place at h =
        exact_bytes place.class class
        (tie_of (by_class class place)
        (test_at is_lt state place at ∙ low.1 state place h.0 (slice_get_within places state place at))
        (test_at is_le state place at ∙ high.0 state place (omega arith) h.1))

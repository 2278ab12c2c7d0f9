-- Lists in strict order: how the items stand to each other, and to what an order is told by.
use Rattle.std.proofs.Common.{◌≡◌, ◌∙◌, refl, sym, ap, subst, ℕ, zero, suc, ◌<◌, ◌≤◌, List, [], ◌∷◌, length, get_or, Bool, true, false, None, Some, arith, Ordering, Less, Equal, Greater}
use Rattle.std.specs.Prelude.{nat_lt, slice_get, ◌||◌, ◌&&◌}
use Rattle.std.specs.Str.{bytes_eq}
use Rattle.std.proofs.lemmas.Map.Text.{is_eq-slice_cmp}
use Rattle.std.proofs.lemmas.Option.{get_or_from_slice_get, slice_get_within}
use Rattle.std.specs.List.{AllByRecursion}
use Rattle.std.specs.List.Sorted.{IsStrictlySortedBy, IsNonDecreasingBy}
use Rattle.std.specs.Ordering.{nat_cmp, ordering_index, ordering_then, is_lt, is_eq}
use Rattle.std.specs.Cmp.{IsTotalOrder}
use Rattle.std.specs.Cmp.Lexicographic.{slice_cmp, nat_list_cmp_total, on_texts, options_total}
use Rattle.std.specs.Option.{option_cmp}
use Rattle.std.proofs.lemmas.Cmp.{nat_cmp_total, then_total, on_total, tied_itself, alike_right}
use Rattle.std.proofs.lemmas.Bool.Decides.{nat_tests}
use Rattle.std.proofs.lemmas.Map.Lookups.{CmpEqualImpliesEq, exact_bytes, exact_unsigned}
use Rattle.circuit_spec.specs.declared.hops.PlaceName.{PlaceName}
use Rattle.circuit_spec.specs.Network.{Name, Tag}
use Rattle.open_places.specs.Places.{place_cmp, IsRising}

all_at : {K : Type 0} (P : K → Type 0) (xs : List K) (i : ℕ) (d : K) → AllByRecursion P xs → i < length xs → P (get_or xs i d)
all_at P [] i d a h = absurd (omega arith)
all_at P (x ∷ xs) zero d a h = a.0
all_at P (x ∷ xs) (suc i) d a h = all_at P xs i d a.1 (omega (arith, h))

-- an item is below each later one
pub below_at : {K : Type 0} (R : K → K → Ordering) (xs : List K) (i j : ℕ) (d : K) → IsStrictlySortedBy R xs → i < j → j < length xs → R (get_or xs i d) (get_or xs j d) ≡ Less
unfolding IsStrictlySortedBy
below_at R [] i j d s lt h = absurd (omega arith)
below_at R (x ∷ xs) i zero d s lt h = absurd (omega arith)
below_at R (x ∷ xs) zero (suc j) d s lt h = all_at (λ y. R x y ≡ Less) xs j d s.0 (omega (arith, h))
below_at R (x ∷ xs) (suc i) (suc j) d s lt h = below_at R xs i j d s.1 (omega (arith, lt)) (omega (arith, h))

-- an item stands once
pub once : {K : Type 0} {R : K → K → Ordering} (o : IsTotalOrder R) (xs : List K) (i j : ℕ) (x : K) → IsStrictlySortedBy R xs → slice_get xs i ≡ Some x → slice_get xs j ≡ Some x → i ≡ j
once {K = K} {R = R} o xs i j x s ati atj = by_tests (nat_lt i j) refl (nat_lt j i) refl
  where
    apart : (m n : ℕ) → slice_get xs m ≡ Some x → slice_get xs n ≡ Some x → m < n → Less ≡ Equal
    apart m n atm atn lt =
        sym (below_at R xs m n x s lt (slice_get_within xs n x atn))
        ∙ ap (λ (y : K). R y (get_or xs n x)) (get_or_from_slice_get xs m x x atm)
        ∙ ap (R x) (get_or_from_slice_get xs n x x atn)
        ∙ tied_itself o x

    by_tests : (t : Bool) → nat_lt i j ≡ t → (u : Bool) → nat_lt j i ≡ u → i ≡ j
    by_tests true e u f = (let differ : Less ≡ Equal = apart i j ati atj (grind (arith, nat_tests)) in absurd cc)
    by_tests false e true f = (let differ : Less ≡ Equal = apart j i atj ati (grind (arith, nat_tests)) in absurd cc)
    by_tests false e false f = grind (arith, nat_tests)

-- what does not fall from a lesser item to a greater one does not fall along the list
pub rises : {K : Type 0} (R : K → K → Ordering) (f : K → ℕ) (xs : List K) → ((i j : ℕ) (d : K) → i < j → j < length xs → f (get_or xs i d) ≤ f (get_or xs j d)) → IsNonDecreasingBy f xs
rises R f xs up i j d le h = by_test (nat_lt i j) refl
  where
    by_test : (t : Bool) → nat_lt i j ≡ t → f (get_or xs i d) ≤ f (get_or xs j d)
    by_test true e = up i j d (grind (arith, nat_tests)) h
    by_test false e =
        let same : i ≡ j = grind (arith, nat_tests) in
        subst (λ (k : ℕ). f (get_or xs i d) ≤ f (get_or xs k d)) same (omega arith)

pub rank_cases : (p q : Ordering) → (q ≡ Less → p ≡ Less) → (q ≡ Equal → p ≡ Less) → ordering_index p ≤ ordering_index q
rank_cases p Less l e = subst (λ (o : Ordering). ordering_index o ≤ ordering_index Less) (sym (l refl)) (omega arith)
rank_cases p Equal l e = subst (λ (o : Ordering). ordering_index o ≤ ordering_index Equal) (sym (e refl)) (omega arith)
rank_cases Less Greater l e = omega arith
rank_cases Equal Greater l e = omega arith
rank_cases Greater Greater l e = omega arith

-- a lesser item does not compare higher to a third
pub rank_below : {K : Type 0} {R : K → K → Ordering} (o : IsTotalOrder R) (a b x : K) → R a b ≡ Less → ordering_index (R a x) ≤ ordering_index (R b x)
rank_below {R = R} o a b x lt = rank_cases (R a x) (R b x) (λ h. o.trans a b x lt h) (λ h. sym (alike_right o b x a h) ∙ lt)

-- ---- places

pub place_total : IsTotalOrder place_cmp
place_total = then_total (on_texts (λ (p : PlaceName). p.class)) (on_total (λ (p : PlaceName). p.label) (options_total nat_cmp_total))

pub exact_tags : (a b : Tag) → option_cmp nat_cmp a b ≡ Equal → a ≡ b
exact_tags None None e = refl
exact_tags None (Some y) e = cc
exact_tags (Some x) None e = cc
exact_tags (Some x) (Some y) e = ap Some (exact_unsigned x y e)

then_equal : (p q : Ordering) → ordering_then p q ≡ Equal → (p ≡ Equal) × (q ≡ Equal)
then_equal Less q e = cc
then_equal Equal q e = (refl, e)
then_equal Greater q e = cc

then_less : (p q : Ordering) → ordering_then p q ≡ Less → p ≡ Equal → q ≡ Less
then_less Less q e h = cc
then_less Equal q e h = e
then_less Greater q e h = cc

then_first : (p q : Ordering) → ordering_then p q ≡ Less → ordering_index p ≤ 1
then_first Less q e = omega arith
then_first Equal q e = omega arith
then_first Greater q e = cc

pub exact_places : CmpEqualImpliesEq place_cmp
exact_places a b e =
    let parts = then_equal (slice_cmp nat_cmp a.class b.class) (option_cmp nat_cmp a.label b.label) e in
    same a.class b.class a.label b.label (exact_bytes a.class b.class parts.0) (exact_tags a.label b.label parts.1)
  where
    same : (c d : Name) (l m : Tag) → c ≡ d → l ≡ m → ◌≡◌ {A = PlaceName} (record { class = c; label = l }) (record { class = d; label = m })
    same c d l m p q = cc

-- of two places of one class the lesser has the lesser label
pub labels_below : (a b : PlaceName) → place_cmp a b ≡ Less → a.class ≡ b.class → option_cmp nat_cmp a.label b.label ≡ Less
labels_below a b lt same =
    then_less (slice_cmp nat_cmp a.class b.class) (option_cmp nat_cmp a.label b.label) lt
    (ap (slice_cmp nat_cmp a.class) (sym same) ∙ tied_itself nat_list_cmp_total a.class)

-- the lesser of two places has no greater class
pub first_below : (a b : PlaceName) → place_cmp a b ≡ Less → ordering_index (slice_cmp nat_cmp a.class b.class) ≤ 1
first_below a b lt = then_first (slice_cmp nat_cmp a.class b.class) (option_cmp nat_cmp a.label b.label) lt

-- two states of one place are one
pub states_once : (places : List PlaceName) (i j : ℕ) (place : PlaceName) → IsRising places → slice_get places i ≡ Some place → slice_get places j ≡ Some place → i ≡ j
states_once places i j place rise ati atj = once place_total places i j place rise ati atj

then_below : (p q : Ordering) → is_lt (ordering_then p q) ≡ (is_lt p || (is_eq p && is_lt q))
then_below Less q = refl
then_below Equal q = refl
then_below Greater q = refl

-- a place is before another one by its class, or by its label where the classes are equal
pub place_below : (a b : PlaceName) → is_lt (place_cmp a b) ≡ (is_lt (slice_cmp nat_cmp a.class b.class) || (bytes_eq a.class b.class && is_lt (option_cmp nat_cmp a.label b.label)))
place_below a b =
    then_below (slice_cmp nat_cmp a.class b.class) (option_cmp nat_cmp a.label b.label)
    ∙ ap (λ (t : Bool). is_lt (slice_cmp nat_cmp a.class b.class) || (t && is_lt (option_cmp nat_cmp a.label b.label))) (is_eq-slice_cmp a.class b.class)

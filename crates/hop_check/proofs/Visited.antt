-- First visits of places, and the flags that they give.
use Rattle.std.proofs.Common.{◌≡◌, ◌↔◌, ◌≤◌, ◌<◌, ℕ, zero, suc, ◌+◌, List, [], ◌∷◌, ◌++◌, length, take, get_or, Bool, true, false, ◌&&◌, cond, Option, None, Some, refl, sym, ◌∙◌, ap, subst, arith, append_assoc, append-nil, Ordering, Less, Equal, Greater, Result, Ok, Err}
use Rattle.std.specs.Prelude.{slice_get, IfOk, OnOk}
use Rattle.std.specs.List.{position, position_from}
use Rattle.std.specs.Option.{option_or}
use Rattle.std.specs.Ordering.{nat_cmp, is_eq, ordering_then}
use Rattle.std.specs.Cmp.Lexicographic.{slice_cmp}
use Rattle.std.specs.Str.{bytes_eq}
use Rattle.std.proofs.lemmas.Bool.{both_ways}
use Rattle.std.proofs.lemmas.Bool.Decides.{nat_tests}
use Rattle.std.proofs.lemmas.Iterator.Adapters.{position_from-zero}
use Rattle.std.proofs.lemmas.Map.Text.{is_eq-slice_cmp}
use Rattle.circuit_spec.specs.declared.hops.Hop.{Hop}
use Rattle.circuit_spec.specs.declared.hops.PlaceName.{PlaceName}
use Rattle.circuit_spec.specs.Flags.{Enters, flags_after, same_place, same_tag}
use Rattle.circuit_spec.specs.Network.{Name, Tag, Topology, Port, IsClass}
use Rattle.circuit_spec.specs.declared.hops.Unit.{Unit as DataUnit}
use Rattle.circuit_spec.specs.Steps.{Run}
use Rattle.circuit_spec.proofs.ClassLemmas.{one_class}
use Rattle.circuit_spec.proofs.Places.{same_places, place_itself}
use Rattle.circuit_spec.proofs.Flags.{length-enters}
use Rattle.hop_check.proofs.Walking.{entered}
use Rattle.std.proofs.lemmas.List.{take_all, take_more, take_more_same, length-take-le}
use Rattle.std.proofs.lemmas.Option.{slice_get_read, slice_get_within, get_or_from_slice_get}
use Rattle.hop_check.specs.Visits.{EntersPlace, place_cmp, tag_cmp}

-- ---- the order of places tells which are the same

tie_tag : (a b : Tag) → is_eq (tag_cmp a b) ≡ same_tag a b
tie_tag None None = refl
tie_tag None (Some n) = refl
tie_tag (Some m) None = refl
tie_tag (Some m) (Some n) = grind (arith, nat_tests)

tie_then : (o p : Ordering) → is_eq (ordering_then o p) ≡ (is_eq o && is_eq p)
tie_then Less p = refl
tie_then Equal p = refl
tie_then Greater p = refl

pub tie_place : (x y : PlaceName) → is_eq (place_cmp x y) ≡ same_place x y
tie_place x y =
    tie_then (slice_cmp nat_cmp x.class y.class) (tag_cmp x.label y.label)
    ∙ ap (λ (t : Bool). t && is_eq (tag_cmp x.label y.label)) (is_eq-slice_cmp x.class y.class)
    ∙ ap (λ (t : Bool). bytes_eq x.class y.class && t) (tie_tag x.label y.label)

-- being the same place goes both ways
same_turned : (x y : PlaceName) → same_place x y ≡ same_place y x
same_turned x y = by_tests (same_place x y) (same_place y x) refl refl
  where
    by_tests : (s t : Bool) → same_place x y ≡ s → same_place y x ≡ t → s ≡ t
    by_tests true true e f = refl
    by_tests false false e f = refl
    by_tests true false e f = absurd (both_ways (same_place y x) f (ap (same_place y) (same_places x y e) ∙ place_itself y))
    by_tests false true e f = absurd (both_ways (same_place x y) e (ap (same_place x) (same_places y x f) ∙ place_itself x))

-- ---- one more visit

none_added : (o : Option ℕ) → o ≡ option_or o None
none_added None = refl
none_added (Some n) = refl

-- what a map has behind the first visit of a place
pub noted_first : (old now : Option ℕ) (at : ℕ) (p q : PlaceName) → (same_place p q ≡ true → old ≡ None) → now ≡ cond (is_eq (place_cmp p q)) (Some at) old → now ≡ option_or old (cond (same_place p q) (Some at) None)
noted_first old now at p q fresh is = is ∙ ap (λ (t : Bool). cond t (Some at) old) (tie_place p q) ∙ by_test (same_place p q) refl
  where
    by_test : (t : Bool) → same_place p q ≡ t → cond t (Some at) old ≡ option_or old (cond t (Some at) None)
    by_test true e = ap (λ (o : Option ℕ). option_or o (Some at)) (sym (fresh e))
    by_test false e = none_added old

pub same_found : (m : PlaceName → Option ℕ) (p q : PlaceName) (o : Option ℕ) → m p ≡ o → same_place p q ≡ true → m q ≡ o
same_found m p q o at e = ap m (sym (same_places p q e)) ∙ at

at_test : (test : PlaceName → Bool) (i n : ℕ) (x : PlaceName) (one all : Option ℕ) (t : Bool) → all ≡ option_or one (cond (test x) (Some n) None) → cond t (Some i) all ≡ option_or (cond t (Some i) one) (cond (test x) (Some n) None)
at_test test i n x one all true later = refl
at_test test i n x one all false later = later

position_from-push : (test : PlaceName → Bool) (i : ℕ) (xs : List PlaceName) (x : PlaceName) → position_from test i (xs ++ x ∷ []) ≡ option_or (position_from test i xs) (cond (test x) (Some (i + length xs)) None)
position_from-push test i [] x = ap (λ (k : ℕ). cond (test x) (Some k) None) (omega arith)
position_from-push test i (y ∷ ys) x =
    let later = position_from-push test (i + 1) ys x ∙ ap (λ (k : ℕ). option_or (position_from test (i + 1) ys) (cond (test x) (Some k) None)) (omega arith) in
    at_test test i (i + length (y ∷ ys)) x (position_from test (i + 1) ys) (position_from test (i + 1) (ys ++ x ∷ [])) (test y) later

position-push : (test : PlaceName → Bool) (xs : List PlaceName) (x : PlaceName) (n : ℕ) → n ≡ length xs → position test (xs ++ x ∷ []) ≡ option_or (position test xs) (cond (test x) (Some n) None)
position-push test xs x n counted =
    position_from-zero test (xs ++ x ∷ [])
    ∙ position_from-push test 0 xs x
    ∙ ap (λ (o : Option ℕ). option_or o (cond (test x) (Some (0 + length xs)) None)) (sym (position_from-zero test xs))
    ∙ ap (λ (k : ℕ). option_or (position test xs) (cond (test x) (Some k) None)) (omega (arith, counted))

-- one more place is visited
pub visits_more : (before : List PlaceName) (p : PlaceName) (at : ℕ) (old now : PlaceName → Option ℕ) → ((q : PlaceName) → old q ≡ position (same_place q) before) → at ≡ length before
    → ((q : PlaceName) → now q ≡ option_or (old q) (cond (same_place p q) (Some at) None)) → (q : PlaceName) → now q ≡ position (same_place q) (before ++ p ∷ [])
visits_more before p at old now are counted more q =
    more q
    ∙ ap (λ (o : Option ℕ). option_or o (cond (same_place p q) (Some at) None)) (are q)
    ∙ ap (λ (t : Bool). option_or (position (same_place q) before) (cond t (Some at) None)) (same_turned p q)
    ∙ sym (position-push (same_place q) before p at counted)

-- ---- the flags due

pub flag_at : (before places : List PlaceName) (k : ℕ) (p : PlaceName) → slice_get places k ≡ Some p → slice_get (flags_after before places) k ≡ Some (position (same_place p) (before ++ take k places))
flag_at before [] k p at = absurd cc
flag_at before (x ∷ places) zero p at =
    let is : x ≡ p = cc in
    ap Some (ap (λ (y : PlaceName). position (same_place y) before) is ∙ ap (position (same_place p)) (sym (append-nil before)))
flag_at before (x ∷ places) (suc k) p at =
    flag_at (before ++ x ∷ []) places k p at ∙ ap (λ (ps : List PlaceName). Some (position (same_place p) ps)) (append_assoc before (x ∷ []) (take k places))

-- the hop at a place enters the place that stands there
pub enters_at : (T : Topology) (hops : List Hop) (places : List PlaceName) (k : ℕ) (h : Hop) → Enters T hops places → slice_get hops k ≡ Some h → (p : PlaceName) × (slice_get places k ≡ Some p) × EntersPlace T h p
enters_at T [] places k h e at = absurd cc
enters_at T (x ∷ hops) [] k h e at = absurd e
enters_at T (x ∷ hops) (p ∷ places) zero h e at =
    let is : x ≡ h = cc in
    (p, refl, subst (λ (y : Hop). EntersPlace T y p) is e.0)
enters_at T (x ∷ hops) (p ∷ places) (suc k) h e at = enters_at T hops places k h e.1 at

pub one_entered : (T : Topology) (h : Hop) (p q : PlaceName) → EntersPlace T h p → EntersPlace T h q → q ≡ p
one_entered T h p q e f = f.2 ∙ ap (λ (c : Port). at c) (one_class T h.to f.0 e.0 f.1 e.1) ∙ sym e.2
  where
    at : Port → PlaceName
    at c = record { class = c.id; label = h.to_label }

-- what is due where a place is visited
due_there : (due : Option ℕ) (at : ℕ) (p : PlaceName) (old now : PlaceName → Option ℕ)
    → due ≡ old p
    → ((x : PlaceName) → now x ≡ option_or (old x) (cond (same_place p x) (Some at) None))
    → (before : List PlaceName) (q : PlaceName) → ((x : PlaceName) → old x ≡ position (same_place x) before) → at ≡ length before → q ≡ p
    → (due ≡ position (same_place q) before) × ((x : PlaceName) → now x ≡ position (same_place x) (before ++ q ∷ []))
due_there due at p old now first noted before q are counted is = (
  first ∙ are p ∙ ap (λ (x : PlaceName). position (same_place x) before) (sym is),
  λ x. visits_more before p at old now are counted noted x ∙ ap (λ (y : PlaceName). position (same_place x) (before ++ y ∷ [])) (sym is),
)

pub due_at : {E : Type 0} (r : Result (Option ℕ) E) (at : ℕ) (p : PlaceName) (Entered : PlaceName → Type 0) (old now : PlaceName → Option ℕ)
    → ((q : PlaceName) → Entered q → q ≡ p)
    → IfOk r (λ first. first ≡ old p)
    → OnOk r ((q : PlaceName) → now q ≡ option_or (old q) (cond (same_place p q) (Some at) None))
    → IfOk r (λ due. (before : List PlaceName) (q : PlaceName) → ((x : PlaceName) → old x ≡ position (same_place x) before) → at ≡ length before → Entered q
    → (due ≡ position (same_place q) before) × ((x : PlaceName) → now x ≡ position (same_place x) (before ++ q ∷ [])))
due_at (Ok due) at p Entered old now one first noted = λ before q are counted enters. due_there due at p old now first noted before q are counted (one q enters)
due_at (Err e) at p Entered old now one first noted = tt

-- the flag that is due at a hop, and the visits behind it
pub flag_here : (T : Topology) (start : PlaceName) (hops : List Hop) (places : List PlaceName) (i : ℕ) (h : Hop) (due : Option ℕ) (now : PlaceName → Option ℕ) → Enters T hops places → h ≡ get_or hops i h → i < length hops
    → ((q : PlaceName) → EntersPlace T h q → (due ≡ position (same_place q) (start ∷ take i places)) × ((x : PlaceName) → now x ≡ position (same_place x) (start ∷ (take i places ++ q ∷ []))))
    → (slice_get (flags_after (start ∷ []) places) i ≡ Some due) × ((x : PlaceName) → now x ≡ position (same_place x) (start ∷ take (i + 1) places))
flag_here T start hops places i h due now enters is lt tells =
    let e = enters_at T hops places i h enters (slice_get_read hops (length hops) i h refl lt is) in
    let told = tells e.0 e.2 in
    let more = take_more places i e.0 (slice_get_within places i e.0 e.1) ∙ ap (λ (p : PlaceName). take i places ++ p ∷ []) (get_or_from_slice_get places i e.0 e.0 e.1) in (
      flag_at (start ∷ []) places i e.0 e.1 ∙ ap Some (sym told.0),
      λ x. told.1 x ∙ ap (λ (ps : List PlaceName). position (same_place x) (start ∷ ps)) (sym more),
    )

-- so many places were visited before a hop
pub visited_before : (T : Topology) (start : PlaceName) (hops : List Hop) (places : List PlaceName) (i : ℕ) → Enters T hops places → i < length hops → i + 1 ≡ length (start ∷ take i places)
visited_before T start hops places i enters lt = omega (arith, length-take-le i places (omega (arith, length-enters T hops places enters, lt)))

-- the class of the port that a hop enters
pub class_behind : (T : Topology) (u : DataUnit) (hops : List Hop) (v : DataUnit) (i : ℕ) (h : Hop) → Run T u hops v → h ≡ get_or hops i h → i < length hops → (class : Port) × IsClass T h.to class
class_behind T u hops v i h run is lt =
    let places = entered T u hops v run in
    let e = enters_at T hops places.0 i h places.1 (slice_get_read hops (length hops) i h refl lt is) in
    (e.2.0, e.2.1)

pub one_more_flag : (flags due : List (Option ℕ)) (i : ℕ) (d : Option ℕ) → take i flags ≡ take i due → slice_get flags i ≡ Some d → slice_get due i ≡ Some d → take (i + 1) flags ≡ take (i + 1) due
one_more_flag flags due i d same here there =
    take_more_same flags due i d (slice_get_within flags i d here) (slice_get_within due i d there) same (get_or_from_slice_get flags i d d here ∙ sym (get_or_from_slice_get due i d d there))

pub all_flags : (flags due : List (Option ℕ)) (i : ℕ) → take i flags ≡ take i due → length flags ≤ i → length due ≤ i → flags ≡ due
all_flags flags due i same le le' = sym (take_all i flags le) ∙ same ∙ take_all i due le'

-- a flag that is not the one due differs from it
pub other_flag : (flags due : List (Option ℕ)) (i : ℕ) (d : Option ℕ) (r : Bool) → slice_get due i ≡ Some d → (r ≡ true) ↔ (slice_get flags i ≡ Some d) → r ≡ false → slice_get flags i ≡ slice_get due i → ⊥
other_flag flags due i d r there tells off same = both_ways r off (tells.1 (same ∙ there))

-- The pairs of potentials in order rise: the order of places is that of states.
use Rattle.std.proofs.Common.{◌≡◌, ◌∙◌, refl, sym, ap, subst, ℕ, zero, suc, ◌<◌, ◌≤◌, ◌⊎◌, List, [], ◌∷◌, length, get_or, take, inl, inr, Bool, true, false, ◌&&◌, ◌||◌, None, Some, Option, arith, Less}
use Rattle.std.specs.Prelude.{slice_get}
use Rattle.std.specs.Ordering.{is_lt, nat_cmp, ordering_reverse}
use Rattle.std.specs.Option.{option_cmp}
use Rattle.std.specs.Str.{bytes_eq}
use Rattle.std.proofs.lemmas.Bool.{cases_lt, or_cases, and_parts}
use Rattle.std.proofs.lemmas.Bool.Decides.{nat_tests}
use Rattle.std.proofs.lemmas.Cmp.{tied_itself}
use Rattle.std.proofs.lemmas.List.{length-take-le}
use Rattle.std.proofs.lemmas.Option.{get_or_from_slice_get, slice_get-get_or, slice_get_within}
use Rattle.std.proofs.lemmas.Slice.Eq.{bytes_eq-Decides}
use Rattle.ml_base.specs.declared.numbers.Root.{Root}
use Rattle.ml_base.specs.declared.numbers.Root.TheVariants as root
use Rattle.ml_base.specs.declared.numbers.StateNo.{StateNo}
use Rattle.ml_base.proofs.Lists.{same_at}
use Rattle.segment_grammar.specs.declared.potentials.Pot.{Pot}
use Rattle.segment_grammar.specs.Pots.{IsAboveLast, IsBelow}
use Rattle.circuit_spec.specs.declared.hops.PlaceName.{PlaceName}
use Rattle.circuit_spec.specs.Network.{Name, Tag}
use Rattle.place_names.specs.Names.{is_below, is_place_below, is_tag_below}
use Rattle.circuit_spec.specs.Flags.{same_place, same_tag}
use Rattle.answer_spec.specs.declared.answer.PotLine.{PotLine}
use Rattle.answer_spec.specs.declared.answer.RootName.{RootName}
use Rattle.answer_spec.specs.declared.answer.RootName.TheVariants as name
use Rattle.answer_spec.specs.Potentials.{root_place}
use Rattle.answer_spec.specs.WellFormed.{ArePots, is_pot_below}
use Rattle.open_places.specs.Places.{IsRising, place_cmp}
use Rattle.open_places.proofs.Ordered.{below_at, place_below, place_total, states_once}
use Rattle.machine_build.specs.Built.{BuiltValue, IsState}
use Rattle.machine_lift.specs.Lift.{IsRootAt}
use Rattle.potential_check.specs.Pairs.{ArePairsOf, IsPairOf}
use Rattle.potential_check.proofs.Zipped.{zip_first, zip_length}

-- ---- tests

same_order : (a b : Tag) → is_lt (option_cmp nat_cmp a b) ≡ is_tag_below a b
same_order None None = refl
same_order None (Some n) = refl
same_order (Some m) None = refl
same_order (Some m) (Some n) = grind (arith, nat_tests)

less_below : (a b : PlaceName) → is_lt (place_cmp a b) ≡ is_place_below a b
less_below a b = place_below a b ∙ ap (λ (t : Bool). is_below a.class b.class || (bytes_eq a.class b.class && t)) (same_order a.label b.label)

same_tags : (a b : Tag) → same_tag a b ≡ true → a ≡ b
same_tags None None e = refl
same_tags None (Some n) e = cc
same_tags (Some m) None e = cc
same_tags (Some m) (Some n) e = ap Some (grind (arith, nat_tests))

abbrev place_of : Name → Tag → PlaceName
place_of class label = record { class = class; label = label }

same_places : (a b : PlaceName) → same_place a b ≡ true → a ≡ b
same_places a b e =
    let parts = and_parts (bytes_eq a.class b.class) (same_tag a.label b.label) e in
    ap (λ c. place_of c a.label) ((bytes_eq-Decides a.class b.class).0 parts.0) ∙ ap (place_of b.class) (same_tags a.label b.label parts.1)

-- ---- states

module _ (b : BuiltValue) (rise : IsRising b.places) where
  not_later : (i j : ℕ) (x y : PlaceName) → slice_get b.places i ≡ Some x → slice_get b.places j ≡ Some y → is_lt (place_cmp x y) ≡ true → j < i → ⊥
  not_later i j x y at_i at_j below lt =
      let up = below_at place_cmp b.places j i x rise lt (slice_get_within b.places i x at_i) in
      let first = get_or_from_slice_get b.places j y x at_j in
      let second = get_or_from_slice_get b.places i x x at_i in
      let less : place_cmp y x ≡ Less = ap (λ p. place_cmp p x) (sym first) ∙ ap (place_cmp (get_or b.places j x)) (sym second) ∙ up in
      let not : true ≡ false = sym below ∙ ap is_lt (place_total.antisymm x y ∙ ap ordering_reverse less) in
      absurd (cc)

  not_there : (i : ℕ) (x y : PlaceName) → slice_get b.places i ≡ Some x → slice_get b.places i ≡ Some y → is_lt (place_cmp x y) ≡ true → ⊥
  not_there i x y at_x at_y below =
      let same : x ≡ y = same_at b.places i x y at_x at_y in
      let not : true ≡ false = sym below ∙ ap (λ p. is_lt (place_cmp x p)) (sym same) ∙ ap is_lt (tied_itself place_total x) in
      absurd (cc)

  states_rise : (s t : StateNo) (x y : PlaceName) → IsState b s x → IsState b t y → is_place_below x y ≡ true → s.0 < t.0
  states_rise s t x y at_s at_t below = go (cases_lt s.0 t.0) (cases_lt t.0 s.0)
    where
      less : is_lt (place_cmp x y) ≡ true
      less = less_below x y ∙ below

      go : (s.0 < t.0) ⊎ (t.0 ≤ s.0) → (t.0 < s.0) ⊎ (s.0 ≤ t.0) → s.0 < t.0
      go (inl l) q = l
      go (inr p) (inl l) = absurd (not_later s.0 t.0 x y at_s at_t less l)
      go (inr p) (inr q) =
          let one : t.0 ≡ s.0 = omega arith in
          absurd (not_there s.0 x y at_s (subst (λ i. slice_get b.places i ≡ Some y) one at_t) less)

  abbrev as_state : ℕ → StateNo
  as_state n = record { 0 = n }

  one_state : (s t : StateNo) (x y : PlaceName) → IsState b s x → IsState b t y → x ≡ y → s ≡ t
  one_state s t x y at_s at_t same =
      let one : s.0 ≡ t.0 = states_once b.places s.0 t.0 y rise (subst (λ p. IsState b s p) same at_s) at_t in
      ap (λ n. as_state n) one

  pairs_rise : (s q : Root) (m n : RootName) (u v : StateNo) (x y : PlaceName) → IsRootAt b s (root_place m) → IsRootAt b q (root_place n)
      → IsState b u x → IsState b v y → is_pot_below m x n y ≡ true → IsBelow s u q v
  pairs_rise root.Request root.Request name.Request name.Request u v x y at_s at_q at_u at_v below = inr (refl, states_rise u v x y at_u at_v below)
  pairs_rise root.Request root.Request name.Request (name.Entry e) u v x y at_s at_q at_u at_v below = absurd at_q
  pairs_rise root.Request root.Request (name.Entry d) n u v x y at_s at_q at_u at_v below = absurd at_s
  pairs_rise root.Request (root.Entry t) m n u v x y at_s at_q at_u at_v below = inl tt
  pairs_rise (root.Entry s) q name.Request n u v x y at_s at_q at_u at_v below = absurd at_s
  pairs_rise (root.Entry s) root.Request (name.Entry d) name.Request u v x y at_s at_q at_u at_v below = cc
  pairs_rise (root.Entry s) root.Request (name.Entry d) (name.Entry e) u v x y at_s at_q at_u at_v below = absurd at_q
  pairs_rise (root.Entry s) (root.Entry t) (name.Entry d) name.Request u v x y at_s at_q at_u at_v below = absurd at_q
  pairs_rise (root.Entry s) (root.Entry t) (name.Entry d) (name.Entry e) u v x y at_s at_q at_u at_v below = go
      (or_cases (is_place_below d e) (same_place d e && is_place_below x y) below)
    where
      go : (is_place_below d e ≡ true) ⊎ ((same_place d e && is_place_below x y) ≡ true) → IsBelow (root.Entry s) u (root.Entry t) v
      go (inl l) = inl (states_rise s t d e at_s at_q l)
      go (inr l) = let parts = and_parts (same_place d e) (is_place_below x y) l in inr
          (ap root.Entry (one_state s t d e at_s at_q (same_places d e parts.0)), states_rise u v x y at_u at_v parts.1)

  -- ---- lists

  follows : (last : Option PotLine) (lines : List PotLine) (k : ℕ) (l m : PotLine) → ArePots last lines → slice_get lines k ≡ Some l
      → slice_get lines (suc k) ≡ Some m → is_pot_below l.root l.place m.root m.place ≡ true
  follows last [] k l m are at_l at_m = cc
  follows last (x ∷ []) zero l m are at_l at_m = cc
  follows last (x ∷ y ∷ lines) zero l m are at_l at_m =
      let first : x ≡ l = cc in
      let second : y ≡ m = cc in
      subst (λ (p : PotLine). is_pot_below l.root l.place p.root p.place ≡ true) second (subst (λ (p : PotLine). is_pot_below p.root p.place y.root y.place ≡ true) first are.2.1)
  follows last (x ∷ lines) (suc k) l m are at_l at_m = follows (Some x) lines k l m are.2 at_l at_m

  of_front : {X : Type 0} (n : ℕ) (xs : List X) (k : ℕ) (x : X) → slice_get (take n xs) k ≡ Some x → slice_get xs k ≡ Some x
  of_front zero xs k x at = cc
  of_front (suc n) [] k x at = cc
  of_front (suc n) (a ∷ xs) zero x at = at
  of_front (suc n) (a ∷ xs) (suc k) x at = of_front n xs k x at

  -- the pair of the next potential stands above those of the ones before it
  pub above_last : (lines : List PotLine) (i : ℕ) (d : PotLine) (pots : List Pot) (p : Pot) → i < length lines → ArePots None lines
      → ArePairsOf b (take i lines) pots → IsPairOf b (get_or lines i d) p → IsAboveLast pots p.root p.state
  above_last lines i d pots p low are before is k q last at =
      let of = zip_first (IsPairOf b) (take i lines) pots k q before at in
      let size : length (take i lines) ≡ length pots = zip_length (IsPairOf b) (take i lines) pots before in
      let here : suc k ≡ i = omega (arith, length-take-le i lines (omega arith)) in
      let at_next : slice_get lines (suc k) ≡ Some (get_or lines i d) = subst (λ n. slice_get lines n ≡ Some (get_or lines i d)) (sym here) (slice_get-get_or lines i d low) in
      let below = follows None lines k of.0 (get_or lines i d) are (of_front i lines k of.0 of.1) at_next in
      pairs_rise q.root p.root of.0.root (get_or lines i d).root q.state p.state of.0.place (get_or lines i d).place of.2.root is.root of.2.place is.place below

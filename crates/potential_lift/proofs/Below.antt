-- The lines of rising pairs rise: the order of states is that of places.
use Rattle.std.proofs.Common.{◌≡◌, ◌∙◌, refl, sym, ap, subst, suc, ◌<◌, List, [], ◌∷◌, inl, inr, Bool, true, ◌&&◌, ◌||◌, None, Some, arith, Less, get_or}
use Rattle.std.specs.List.{AllByRecursion}
use Rattle.std.specs.Ordering.{nat_cmp, is_lt}
use Rattle.std.specs.Option.{option_cmp}
use Rattle.std.specs.Str.{bytes_eq}
use Rattle.std.proofs.lemmas.Bool.{or_left, or_right, and_from}
use Rattle.std.proofs.lemmas.Bool.Decides.{nat_tests}
use Rattle.std.proofs.lemmas.Option.{get_or_from_slice_get, slice_get_within}
use Rattle.std.proofs.lemmas.Slice.Eq.{bytes_eq-Decides}
use Rattle.ml_base.specs.declared.numbers.Root.{Root}
use Rattle.ml_base.specs.declared.numbers.Root.TheVariants as root
use Rattle.ml_base.specs.declared.numbers.StateNo.{StateNo}
use Rattle.ml_base.proofs.Lists.{same_at}
use Rattle.segment_grammar.specs.declared.potentials.Pot.{Pot}
use Rattle.segment_grammar.specs.Pots.{IsBelow, IsRootBelow, IsRising}
use Rattle.circuit_spec.specs.declared.hops.PlaceName.{PlaceName}
use Rattle.circuit_spec.specs.Network.{Tag}
use Rattle.place_names.specs.Names.{is_below, is_tag_below, is_place_below}
use Rattle.circuit_spec.specs.Flags.{same_tag, same_place}
use Rattle.answer_spec.specs.declared.answer.PotLine.{PotLine}
use Rattle.answer_spec.specs.declared.answer.RootName.{RootName}
use Rattle.answer_spec.specs.declared.answer.RootName.TheVariants as name
use Rattle.answer_spec.specs.WellFormed.{is_pot_below}
use Rattle.answer_spec.specs.Ordered.{ArePotsInOrder, IsShort}
use Rattle.answer_spec.specs.Potentials.{root_place}
use Rattle.open_places.specs.Places.{place_cmp, IsRising as ArePlacesRising}
use Rattle.open_places.proofs.Ordered.{below_at, place_below}
use Rattle.machine_build.specs.Built.{BuiltValue, IsState}
use Rattle.machine_lift.specs.Lift.{IsRootAt}
use Rattle.potential_lift.specs.Lines.{AreLinesOf, IsLineOf}

-- Places

same_order : (a b : Tag) → is_lt (option_cmp nat_cmp a b) ≡ is_tag_below a b
same_order None None = refl
same_order None (Some n) = refl
same_order (Some m) None = refl
same_order (Some m) (Some n) = grind (arith, nat_tests)

-- a place that is less is below
less_below : (a b : PlaceName) → place_cmp a b ≡ Less → is_place_below a b ≡ true
less_below a b less =
    ap (λ (t : Bool). is_below a.class b.class || (bytes_eq a.class b.class && t)) (sym (same_order a.label b.label)) ∙ sym (place_below a b) ∙ ap is_lt less

tag_itself : (a : Tag) → same_tag a a ≡ true
tag_itself None = refl
tag_itself (Some n) = grind (arith, nat_tests)

place_itself : (a : PlaceName) → same_place a a ≡ true
place_itself a = and_from (bytes_eq a.class a.class) (same_tag a.label a.label) ((bytes_eq-Decides a.class a.class).1 refl) (tag_itself a.label)

-- States and roots

module _ (b : BuiltValue) (rise : ArePlacesRising b.places) where
  states_below : (s t : StateNo) (x y : PlaceName) → IsState b s x → IsState b t y → s.0 < t.0 → is_place_below x y ≡ true
  states_below s t x y at_s at_t lt =
      let up = below_at place_cmp b.places s.0 t.0 x rise lt (slice_get_within b.places t.0 y at_t) in
      let first = get_or_from_slice_get b.places s.0 x x at_s in
      let second = get_or_from_slice_get b.places t.0 y x at_t in
      less_below x y (ap (λ p. place_cmp p y) (sym first) ∙ ap (place_cmp (get_or b.places s.0 x)) (sym second) ∙ up)

  -- one root of the network is at a root of the machine
  pub one_root : (r : Root) (m n : RootName) → IsRootAt b r (root_place m) → IsRootAt b r (root_place n) → m ≡ n
  one_root root.Request name.Request name.Request p q = refl
  one_root root.Request name.Request (name.Entry e) p q = absurd q
  one_root root.Request (name.Entry d) n p q = absurd p
  one_root (root.Entry s) name.Request n p q = absurd p
  one_root (root.Entry s) (name.Entry d) name.Request p q = absurd q
  one_root (root.Entry s) (name.Entry d) (name.Entry e) p q = ap name.Entry (same_at b.places s.0 d e p q)

  roots_below : (r q : Root) (m n : RootName) (x y : PlaceName) → IsRootAt b r (root_place m) → IsRootAt b q (root_place n) → IsRootBelow r q → is_pot_below m x n y ≡ true
  roots_below root.Request root.Request m n x y at_r at_q below = absurd below
  roots_below (root.Entry s) root.Request m n x y at_r at_q below = absurd below
  roots_below root.Request (root.Entry t) (name.Entry d) n x y at_r at_q below = absurd at_r
  roots_below root.Request (root.Entry t) name.Request name.Request x y at_r at_q below = absurd at_q
  roots_below root.Request (root.Entry t) name.Request (name.Entry e) x y at_r at_q below = refl
  roots_below (root.Entry s) (root.Entry t) name.Request n x y at_r at_q below = absurd at_r
  roots_below (root.Entry s) (root.Entry t) (name.Entry d) name.Request x y at_r at_q below = absurd at_q
  roots_below (root.Entry s) (root.Entry t) (name.Entry d) (name.Entry e) x y at_r at_q below =
      or_left (is_place_below d e) (same_place d e && is_place_below x y) (states_below s t d e at_r at_q below)

  under_one_root : (m : RootName) (x y : PlaceName) → is_place_below x y ≡ true → is_pot_below m x m y ≡ true
  under_one_root name.Request x y below = below
  under_one_root (name.Entry d) x y below =
      or_right (is_place_below d d) (same_place d d && is_place_below x y) (and_from (same_place d d) (is_place_below x y) (place_itself d) below)

  lines_below : (p q : Pot) (l m : PotLine) → IsLineOf b p l → IsLineOf b q m → IsBelow p.root p.state q.root q.state → is_pot_below l.root l.place m.root m.place ≡ true
  lines_below p q l m of_p of_q (inl below) = roots_below p.root q.root l.root m.root l.place m.place of_p.root of_q.root below
  lines_below p q l m of_p of_q (inr same) =
      let root_q : IsRootAt b p.root (root_place m.root) = subst (λ r. IsRootAt b r (root_place m.root)) (sym same.0) of_q.root in
      let one = one_root p.root l.root m.root of_p.root root_q in
      subst (λ n. is_pot_below l.root l.place n m.place ≡ true) one (under_one_root l.root l.place m.place (states_below p.state q.state l.place m.place of_p.place of_q.place same.1))

  -- Lists

  later : (p : Pot) (ps : List Pot) → IsRising (p ∷ ps) → IsRising ps
  later p ps rising i j x y lt at_i at_j = rising (suc i) (suc j) x y (omega (arith, lt)) at_i at_j

  follow : (p : Pot) (l : PotLine) (ps : List Pot) (ls : List PotLine) → IsLineOf b p l → AreLinesOf b ps ls → IsRising (p ∷ ps) → AllByRecursion (λ q. IsShort q.weight) ps → ArePotsInOrder (Some l) ls
  follow p l [] [] of are rising short = tt
  follow p l [] (m ∷ ls) of are rising short = absurd are
  follow p l (q ∷ ps) [] of are rising short = absurd are
  follow p l (q ∷ ps) (m ∷ ls) of are rising short = (
    subst IsShort (sym are.0.weight) short.0,
    lines_below p q l m of are.0 (rising 0 1 p q (omega arith) refl refl),
    follow q m ps ls are.0 are.1 (later p (q ∷ ps) rising) short.1,
  )

  -- the lines of rising pairs with short weights are in order
  pub in_order : (ps : List Pot) (ls : List PotLine) → AreLinesOf b ps ls → IsRising ps → AllByRecursion (λ q. IsShort q.weight) ps → ArePotsInOrder None ls
  in_order [] [] are rising short = tt
  in_order [] (l ∷ ls) are rising short = absurd are
  in_order (p ∷ ps) [] are rising short = absurd are
  in_order (p ∷ ps) (l ∷ ls) are rising short = (subst IsShort (sym are.0.weight) short.0, refl, follow p l ps ls are.0 are.1 rising short.1)

-- A request has one list of potentials: strictly rising lists of the same items are one.
use Rattle.std.proofs.Common.{◌≡◌, ◌⊎◌, inl, inr, List, [], ◌∷◌, Bool, true, ◌&&◌, ◌||◌, Option, None, Some, refl, sym, ◌∙◌, ap, subst, arith}
use Rattle.std.specs.Ordering.{nat_cmp, is_lt}
use Rattle.std.specs.Cmp.Lexicographic.{slice_cmp}
use Rattle.std.specs.Str.{bytes_eq}
use Rattle.std.proofs.lemmas.Bool.{or_cases, or_left, or_right, and_parts, and_from}
use Rattle.std.proofs.lemmas.Bool.Decides.{nat_tests}
use Rattle.std.proofs.lemmas.Cmp.{nat_list_cmp_total, tied_itself}
use Rattle.std.proofs.lemmas.List.Elements.{All-contains}
use Rattle.std.proofs.lemmas.Slice.Eq.{bytes_eq-Decides}
use Rattle.ml_base.specs.declared.weight.Weight.{Weight}
use Rattle.ml_base.specs.Weight.{IsCappedAtMost}
use Rattle.ml_base.proofs.Comparisons.{is_less, not_less}
use Rattle.ml_base.proofs.Laws.{at_most-antisym}
use Rattle.ml_base.proofs.Lists.{among_read}
use Rattle.circuit_spec.specs.declared.hops.PlaceName.{PlaceName}
use Rattle.circuit_spec.specs.declared.hops.Request.{Request}
use Rattle.circuit_spec.specs.Network.{Name, Tag, Topology}
use Rattle.circuit_spec.specs.Segments.{RootPlace, IsLeastOf}
use Rattle.circuit_spec.proofs.Among.{IsAmong}
use Rattle.circuit_spec.proofs.Lists.{contains_among}
use Rattle.circuit_spec.proofs.Places.{same_places}
use Rattle.place_names.specs.Names.{is_below, is_tag_below, is_place_below}
use Rattle.circuit_spec.specs.Flags.{same_place}
use Rattle.answer_spec.specs.declared.answer.PotLine.{PotLine}
use Rattle.answer_spec.specs.declared.answer.RootName.{RootName}
use Rattle.answer_spec.specs.declared.answer.RootName.TheVariants as root
use Rattle.answer_spec.specs.WellFormed.{is_pot_below}
use Rattle.answer_spec.specs.Ordered.{ArePotsInOrder}
use Rattle.answer_spec.specs.Potentials.{root_place, IsListed, IsPotential, ArePotentials}

-- ---- strict orders

pub record IsStrict {A : Type 0} (less : A → A → Bool) : Type 0 where
  pub never : (a : A) → less a a ≡ true → ⊥
  pub on : (a b c : A) → less a b ≡ true → less b c ≡ true → less a c ≡ true

-- by a first part, and where it is the same by a second
module _ {A B : Type 0} (less same : A → A → Bool) (under : B → B → Bool) (strict : IsStrict less) (is_same : (a b : A) → same a b ≡ true → a ≡ b) (strict_under : IsStrict under) where
  abbrev pub Both : A → B → A → B → Bool
  Both a x b y = less a b || (same a b && under x y)

  both_never : (a : A) (x : B) → Both a x a x ≡ true → ⊥
  both_never a x h =
      elim (or_cases (less a a) (same a a && under x x) h) [
        | inl l ↦ strict.never a l
        | inr e ↦ strict_under.never x (and_parts (same a a) (under x x) e).1
      ]

  both_on : (a b c : A) (x y z : B) → Both a x b y ≡ true → Both b y c z ≡ true → Both a x c z ≡ true
  both_on a b c x y z h k = by_cases (or_cases (less a b) (same a b && under x y) h) (or_cases (less b c) (same b c && under y z) k) where
    by_cases : (less a b ≡ true) ⊎ ((same a b && under x y) ≡ true) → (less b c ≡ true) ⊎ ((same b c && under y z) ≡ true) → Both a x c z ≡ true
    by_cases (inl p) (inl q) = or_left (less a c) (same a c && under x z) (strict.on a b c p q)
    by_cases (inl p) (inr q) =
        let is = is_same b c (and_parts (same b c) (under y z) q).0 in
        or_left (less a c) (same a c && under x z) (ap (less a) (sym is) ∙ p)
    by_cases (inr p) (inl q) =
        let is = is_same a b (and_parts (same a b) (under x y) p).0 in
        or_left (less a c) (same a c && under x z) (ap (λ d. less d c) is ∙ q)
    by_cases (inr p) (inr q) =
        let p' = and_parts (same a b) (under x y) p in
        let q' = and_parts (same b c) (under y z) q in
        let first = ap (λ d. same d c) (is_same a b p'.0) ∙ q'.0 in
        or_right (less a c) (same a c && under x z) (and_from (same a c) (under x z) first (strict_under.on x y z p'.1 q'.1))

-- ---- the orders of names, labels, places and pairs

names_strict : IsStrict is_below
names_strict = record {
  never = λ a h. not_less (slice_cmp nat_cmp a a) (tied_itself nat_list_cmp_total a) h;
  on = λ a b c h k. ap is_lt (nat_list_cmp_total.trans a b c (is_less (slice_cmp nat_cmp a b) h) (is_less (slice_cmp nat_cmp b c) k));
}

tag_never : (a : Tag) → is_tag_below a a ≡ true → ⊥
tag_never None h = absurd cc
tag_never (Some n) h = absurd (grind (arith, nat_tests))

tag_on : (a b c : Tag) → is_tag_below a b ≡ true → is_tag_below b c ≡ true → is_tag_below a c ≡ true
tag_on a None c h k = none_above a h where
  none_above : (a : Tag) → is_tag_below a None ≡ true → is_tag_below a c ≡ true
  none_above None h = cc
  none_above (Some n) h = cc
tag_on a (Some m) None h k = cc
tag_on None (Some m) (Some n) h k = refl
tag_on (Some l) (Some m) (Some n) h k = grind (arith, nat_tests)

tags_strict : IsStrict is_tag_below
tags_strict = record { never = tag_never; on = tag_on }

same_names : (a b : Name) → bytes_eq a b ≡ true → a ≡ b
same_names a b = (bytes_eq-Decides a b).0

places_strict : IsStrict is_place_below
places_strict = record {
  never = λ a. both_never is_below bytes_eq is_tag_below names_strict same_names tags_strict a.class a.label;
  on = λ a b c. both_on is_below bytes_eq is_tag_below names_strict same_names tags_strict a.class b.class c.class a.label b.label c.label;
}

abbrev is_line_below : PotLine → PotLine → Bool
is_line_below p q = is_pot_below p.root p.place q.root q.place

line_never : (name : RootName) (x : PlaceName) → is_pot_below name x name x ≡ true → ⊥
line_never root.Request x h = places_strict.never x h
line_never (root.Entry e) x h = both_never is_place_below same_place is_place_below places_strict same_places places_strict e x h

line_on : (a b c : RootName) (x y z : PlaceName) → is_pot_below a x b y ≡ true → is_pot_below b y c z ≡ true → is_pot_below a x c z ≡ true
line_on root.Request root.Request root.Request x y z h k = places_strict.on x y z h k
line_on root.Request root.Request (root.Entry c) x y z h k = refl
line_on root.Request (root.Entry b) root.Request x y z h k = cc
line_on root.Request (root.Entry b) (root.Entry c) x y z h k = refl
line_on (root.Entry a) root.Request c x y z h k = cc
line_on (root.Entry a) (root.Entry b) root.Request x y z h k = cc
line_on (root.Entry a) (root.Entry b) (root.Entry c) x y z h k = both_on is_place_below same_place is_place_below places_strict same_places places_strict a b c x y z h k

-- ---- rising lists

-- what stands behind a line is above it
all_above : (p : PotLine) (ps : List PotLine) → ArePotsInOrder (Some p) ps → (q : PotLine) → IsAmong ps q → is_line_below p q ≡ true
all_above p [] rising q among = absurd among
all_above p (x ∷ ps) rising q (inl e) = ap (is_line_below p) e ∙ rising.1
all_above p (x ∷ ps) rising q (inr later) = line_on p.root x.root q.root p.place x.place q.place rising.1 (all_above x ps rising.2 q later)

-- not both of two lines are below the other
not_both : (p q : PotLine) (A : Type 0) → is_line_below p q ≡ true → is_line_below q p ≡ true → A
not_both p q A h k = absurd (line_never p.root p.place (line_on p.root q.root p.root p.place q.place p.place h k))

-- the items of the one list are items of the other
abbrev Within : List PotLine → List PotLine → Type 0
Within xs ys = (p : PotLine) → IsAmong xs p → IsAmong ys p

same_head : (x y : PotLine) (xs ys : List PotLine) → ArePotsInOrder (Some x) xs → ArePotsInOrder (Some y) ys → (x ≡ y) ⊎ IsAmong ys x → (y ≡ x) ⊎ IsAmong xs y → x ≡ y
same_head x y xs ys up up' (inl e) other = e
same_head x y xs ys up up' (inr later) (inl e) = sym e
same_head x y xs ys up up' (inr later) (inr after) = not_both x y _ (all_above x xs up y after) (all_above y ys up' x later)

same_tail : (x y : PotLine) (xs ys : List PotLine) → ArePotsInOrder (Some x) xs → x ≡ y → Within (x ∷ xs) (y ∷ ys) → Within xs ys
same_tail x y xs ys up same within p among =
    elim (within p (inr among)) [
      | inl e ↦ let up_to = all_above x xs up p among in absurd (line_never x.root x.place (ap (is_line_below x) (same ∙ sym e) ∙ up_to))
      | inr later ↦ later
    ]

same_lists : (before before' : Option PotLine) (xs ys : List PotLine) → ArePotsInOrder before xs → ArePotsInOrder before' ys → Within xs ys → Within ys xs → xs ≡ ys
same_lists before before' [] [] up up' to back = refl
same_lists before before' [] (y ∷ ys) up up' to back = absurd (back y (inl refl))
same_lists before before' (x ∷ xs) [] up up' to back = absurd (to x (inl refl))
same_lists before before' (x ∷ xs) (y ∷ ys) up up' to back =
    let head = same_head x y xs ys up.2 up'.2 (to x (inl refl)) (back y (inl refl)) in
    let tail = same_lists (Some x) (Some y) xs ys up.2 up'.2 (same_tail x y xs ys up.2 head to) (same_tail y x ys xs up'.2 (sym head) back) in
    cc

-- ---- potentials

-- a pair has one least weight
one_least : (T : Topology) (r : Request) (base : RootPlace) (place : PlaceName) (v w : Weight) → IsLeastOf T r base place v → IsLeastOf T r base place w → v ≡ w
one_least T r base place v w a b =
    at_most-antisym v w (subst (IsCappedAtMost v) b.weight (a.least b.hops b.segment)) (subst (IsCappedAtMost w) a.weight (b.least a.hops a.segment))

listed_in : (T : Topology) (r : Request) (xs ys : List PotLine) → ArePotentials T r xs → ArePotentials T r ys → Within xs ys
listed_in T r xs ys pots others p among =
    let is = All-contains (IsPotential T r) xs p pots.least (contains_among xs p among) in
    let at = others.reached p.root p.place (is.hops, is.segment) in
    let also = All-contains (IsPotential T r) ys (record { root = p.root; place = p.place; weight = at.0 }) others.least at.1 in
    let here = subst (IsListed ys p.root p.place) (one_least T r (root_place p.root) p.place at.0 p.weight also is) at.1 in
    among_read ys p here.0 here.1 here.2

pub one_list : (T : Topology) (r : Request) (xs ys : List PotLine) → ArePotentials T r xs → ArePotentials T r ys → xs ≡ ys
one_list T r xs ys pots others = same_lists None None xs ys pots.in_order others.in_order (listed_in T r xs ys pots others) (listed_in T r ys xs others pots)

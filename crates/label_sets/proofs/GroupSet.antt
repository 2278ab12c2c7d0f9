-- The function that reads a group text gives what the relations say.
use Rattle.std.proofs.Common.{◌≡◌, ◌⊎◌, inl, inr, ℕ, zero, suc, ◌+◌, ◌<◌, ◌≤◌, ◌^◌, min, max, List, [], ◌∷◌, ◌++◌, length, take, Bool, true, false, ◌||◌, cond, ltb, Option, None, Some, Ok, Err, refl, sym, ap, ◌∙◌, subst, arith}
use Rattle.std.specs.Option.{is_some}
use Rattle.std.specs.List.{AllByRecursion}
use Rattle.std.proofs.lemmas.Bool.{cases_lt, ltb-true, ltb-false}
use Rattle.std.proofs.lemmas.Bool.Decides.{nat_tests}
use Rattle.std.proofs.Math.Bool.{or_assoc}
use Rattle.label_sets.specs.Ranges.{RiseFrom, AreRanges, is_within, has, IsSetOf}
use Rattle.label_sets.specs.GroupText.{IsGroupText, IsNoGroupText, IsSetOfText, IsRefusedAt, one, more}
use Rattle.label_sets.specs.Reading.{Front, fresh, range_of, run, accepts}
use Rattle.label_sets.specs.GroupSet.{SomeRanges, all_of, with_range, set_of, longest_within, group_from, group_of}
use Rattle.label_sets.proofs.Canonical.{set_is_one}
use Rattle.label_sets.proofs.Merge.{has-append, raise}
use Rattle.label_sets.proofs.Scan.{run_group, group_run, group_accepted, accepted_group, refused_group}

-- ---- a set with one more range

rise_by : (start : ℕ) (r s : ℕ × ℕ) (rest : List (ℕ × ℕ)) (apart joined : SomeRanges) (b c : Bool) → ltb (r.1 + 1) s.0 ≡ b → ltb (s.1 + 1) r.0 ≡ c
    → start ≤ r.0 → r.0 ≤ r.1 → r.1 < 2 ^ 32 → RiseFrom start (s ∷ rest) → (s.1 + 2 ≤ r.0 → RiseFrom (s.1 + 2) (all_of apart)) → RiseFrom start (all_of joined)
    → RiseFrom start (all_of (cond b (record { first = r; others = s ∷ rest }) (cond c (record { first = s; others = all_of apart }) joined)))
rise_by start r s rest apart joined true c e f low proper small up later near =
    let gap = ltb-true (r.1 + 1) s.0 e in
    (low, proper, small, (omega (arith, gap), up.1, up.2, up.3))
rise_by start r s rest apart joined false true e f low proper small up later near =
    let gap = ltb-true (s.1 + 1) r.0 f in
    (up.0, up.1, up.2, later (omega (arith, gap)))
rise_by start r s rest apart joined false false e f low proper small up later near = near

rises : (start : ℕ) (r : ℕ × ℕ) (set : List (ℕ × ℕ)) → start ≤ r.0 → r.0 ≤ r.1 → r.1 < 2 ^ 32 → RiseFrom start set → RiseFrom start (all_of (with_range r set))
unfolding with_range
rises start r [] low proper small up = (low, proper, small, tt)
rises start r (s ∷ rest) low proper small up =
    rise_by start r s rest (with_range r rest) (with_range (min r.0 s.0, max r.1 s.1) rest) (ltb (r.1 + 1) s.0) (ltb (s.1 + 1) r.0) refl refl low proper small up
    (λ gap. rises (s.1 + 2) r rest gap proper small up.3)
    (rises start (min r.0 s.0, max r.1 s.1) rest (omega (arith, up.0, low)) (omega (arith, proper)) (omega (arith, small, up.2)) (raise start (s.1 + 2) rest (omega (arith, up.0, up.1)) up.3))

within_joined : (r s : ℕ × ℕ) (n : ℕ) → r.0 ≤ r.1 → s.0 ≤ s.1 → s.0 ≤ r.1 + 1 → r.0 ≤ s.1 + 1 → is_within (min r.0 s.0, max r.1 s.1) n ≡ (is_within r n || is_within s n)
within_joined r s n a b c d = grind (arith, nat_tests)

or_swap : (a b c : Bool) → (a || (b || c)) ≡ (b || (a || c))
or_swap true true c = refl
or_swap true false c = refl
or_swap false true c = refl
or_swap false false c = refl

has_by : (r s : ℕ × ℕ) (rest : List (ℕ × ℕ)) (n : ℕ) (apart joined : SomeRanges) (b c : Bool) → ltb (r.1 + 1) s.0 ≡ b → ltb (s.1 + 1) r.0 ≡ c
    → r.0 ≤ r.1 → s.0 ≤ s.1 → has (all_of apart) n ≡ (is_within r n || has rest n) → has (all_of joined) n ≡ (is_within (min r.0 s.0, max r.1 s.1) n || has rest n)
    → has (all_of (cond b (record { first = r; others = s ∷ rest }) (cond c (record { first = s; others = all_of apart }) joined))) n ≡ (is_within r n || (is_within s n || has rest n))
has_by r s rest n apart joined true c e f proper proper' later near = refl
has_by r s rest n apart joined false true e f proper proper' later near =
    ap (λ b. is_within s n || b) later ∙ or_swap (is_within s n) (is_within r n) (has rest n)
has_by r s rest n apart joined false false e f proper proper' later near =
    near ∙ ap (λ b. b || has rest n) (within_joined r s n proper proper' (ltb-false (r.1 + 1) s.0 e) (ltb-false (s.1 + 1) r.0 f)) ∙ or_assoc (is_within r n) (is_within s n) (has rest n)

has_with : (start : ℕ) (r : ℕ × ℕ) (set : List (ℕ × ℕ)) (n : ℕ) → r.0 ≤ r.1 → RiseFrom start set → has (all_of (with_range r set)) n ≡ (is_within r n || has set n)
unfolding with_range
has_with start r [] n proper up = refl
has_with start r (s ∷ rest) n proper up =
    has_by r s rest n (with_range r rest) (with_range (min r.0 s.0, max r.1 s.1) rest) (ltb (r.1 + 1) s.0) (ltb (s.1 + 1) r.0) refl refl proper up.1
    (has_with (s.1 + 2) r rest n proper up.3)
    (has_with (s.1 + 2) (min r.0 s.0, max r.1 s.1) rest n (omega (arith, proper)) up.3)

-- ---- the set of items

abbrev AreFitting : List (ℕ × ℕ) → Type 0
AreFitting items = AllByRecursion (λ (r : ℕ × ℕ). (r.0 ≤ r.1) × (r.1 < 2 ^ 32)) items

set_rises : (items : List (ℕ × ℕ)) → AreFitting items → AreRanges (set_of items)
unfolding set_of
set_rises [] fits = tt
set_rises (r ∷ rest) fits = rises 0 r (set_of rest) (omega arith) fits.0.0 fits.0.1 (set_rises rest fits.1)

set_has : (items : List (ℕ × ℕ)) (n : ℕ) → AreFitting items → has (set_of items) n ≡ has items n
unfolding set_of
set_has [] n fits = refl
set_has (r ∷ rest) n fits = has_with 0 r (set_of rest) n fits.0.0 (set_rises rest fits.1) ∙ ap (λ b. is_within r n || b) (set_has rest n fits.1)

fitting_push : (xs : List (ℕ × ℕ)) (r : ℕ × ℕ) → AreFitting xs → (r.0 ≤ r.1) × (r.1 < 2 ^ 32) → AreFitting (xs ++ r ∷ [])
fitting_push [] r fits here = (here, tt)
fitting_push (x ∷ xs) r fits here = (fits.0, fitting_push xs r fits.1 here)

group_fitting : (text : List ℕ) (ranges : List (ℕ × ℕ)) → IsGroupText text ranges → AreFitting ranges
group_fitting text ranges (one t range item) = ((item.0, item.1), tt)
group_fitting text ranges (more front before t range group item) = fitting_push before range (group_fitting front before group) (item.0, item.1)

fitting_parts : (xs : List (ℕ × ℕ)) (r : ℕ × ℕ) → AreFitting (xs ++ r ∷ []) → AreFitting xs × (r.0 ≤ r.1) × (r.1 < 2 ^ 32)
fitting_parts [] r fits = (tt, fits.0.0, fits.0.1)
fitting_parts (x ∷ xs) r fits =
    let p = fitting_parts xs r fits.1 in
    ((fits.0, p.0), p.1, p.2)

or_last : (a b : Bool) → (a || b) ≡ (b || (a || false))
or_last true true = refl
or_last true false = refl
or_last false true = refl
or_last false false = refl

-- the set that the function gives has the labels of the items
set_of_items : (before : List (ℕ × ℕ)) (last : ℕ × ℕ) → AreFitting (before ++ last ∷ []) → IsSetOf (has (before ++ last ∷ [])) (all_of (with_range last (set_of before)))
set_of_items before last fits =
    let p = fitting_parts before last fits in
    let up = set_rises before p.0 in
    record {
      ranges = rises 0 last (set_of before) (omega arith) p.1 p.2 up;
      labels = λ n. has_with 0 last (set_of before) n p.1 up
          ∙ ap (λ b. is_within last n || b) (set_has before n p.0)
          ∙ or_last (is_within last n) (has before n)
          ∙ sym (has-append before (last ∷ []) n);
    }

-- ---- texts that are taken

given_from : (text : List ℕ) (some : SomeRanges) (o : Option (ℕ × ℕ)) → range_of (run fresh text).state ≡ o → group_from text o ≡ Ok some → IsSetOfText text (all_of some)
given_from text some None e is = cc
given_from text some (Some last) e is =
    let same : with_range last (set_of (run fresh text).ranges) ≡ some = cc in
    let group = run_group text last e in
    record {
      items = (run fresh text).ranges ++ last ∷ [];
      group = group;
      labels = subst (λ s. IsSetOf (has ((run fresh text).ranges ++ last ∷ [])) (all_of s)) same (set_of_items (run fresh text).ranges last (group_fitting text ((run fresh text).ranges ++ last ∷ []) group));
    }

pub given_set : (text : List ℕ) (some : SomeRanges) → group_of text ≡ Ok some → IsSetOfText text (all_of some)
unfolding group_of
given_set text some is = given_from text some (range_of (run fresh text).state) refl is

pub spelt_set : (text : List ℕ) (set : List (ℕ × ℕ)) → IsSetOfText text set → (some : SomeRanges) × (group_of text ≡ Ok some) × (set ≡ all_of some)
unfolding group_of
spelt_set text set spelt =
    let g = group_run text spelt.items spelt.group in
    let some : SomeRanges = with_range g.last (set_of g.before) in
    let read : group_from text (range_of (run fresh text).state) ≡ Ok some =
    ap (λ (f : Front). group_from text (range_of f.state)) g.run_is
    ∙ ap (group_from text) g.ends
    ∙ ap (λ (f : Front). Ok (with_range g.last (set_of f.ranges))) g.run_is in
    let ours = set_of_items g.before g.last (subst AreFitting g.ranges_are (group_fitting text spelt.items spelt.group)) in
    (some, read, set_is_one (has (g.before ++ g.last ∷ [])) set (all_of some) (subst (λ items. IsSetOf (has items) set) g.ranges_are spelt.labels) ours)

-- ---- texts that are refused

abbrev IsFront : List ℕ → ℕ → Type 0
IsFront text at = (at ≡ 0) ⊎ (accepts (take at text) ≡ true)

abbrev AreNone : ℕ → ℕ → List ℕ → Type 0
AreNone at most text = (k : ℕ) → at < k → k ≤ most → accepts (take k text) ≡ false

longest_is : (most : ℕ) (text : List ℕ) (at : ℕ) → at ≤ most → IsFront text at → AreNone at most text → longest_within most text ≡ at
unfolding longest_within
longest_is zero text at le front none = omega (arith, le)
longest_is (suc k) text at le front none = elim (cases_lt at (suc k)) [
  | inl less ↦ ap (λ b. cond b (suc k) (longest_within k text)) (none (suc k) less (omega arith)) ∙ longest_is k text at (omega (arith, less)) front (λ j more le'. none j more (omega (arith, le')))
  | inr full ↦ last_is (omega (arith, full, le)) front
] where
  last_is : at ≡ suc k → IsFront text at → cond (accepts (take (suc k) text)) (suc k) (longest_within k text) ≡ at
  last_is e (inl zero_is) = absurd (omega (arith, e, zero_is))
  last_is e (inr taken) = ap (λ b. cond b (suc k) (longest_within k text)) (ap (λ n. accepts (take n text)) (sym e) ∙ taken) ∙ sym e

-- where the function refuses
abbrev IsLongest : ℕ → ℕ → List ℕ → Type 0
IsLongest most at text = (at ≤ most) × IsFront text at × AreNone at most text

longest_by : (k : ℕ) (text : List ℕ) (b : Bool) → accepts (take (suc k) text) ≡ b → IsLongest k (longest_within k text) text → IsLongest (suc k) (cond b (suc k) (longest_within k text)) text
longest_by k text true e so_far = (omega arith, inr e, λ j more le. absurd (omega (arith, more, le)))
longest_by k text false e so_far = (
  omega (arith, so_far.0),
  so_far.1,
  λ j more le. elim (cases_lt j (suc k)) [
    | inl less ↦ so_far.2 j more (omega (arith, less))
    | inr full ↦
        let here : j ≡ suc k = omega (arith, full, le) in
        ap (λ n. accepts (take n text)) here ∙ e
  ],
)

longest_holds : (most : ℕ) (text : List ℕ) → IsLongest most (longest_within most text) text
unfolding longest_within
longest_holds zero text = (omega arith, inl refl, λ j more le. absurd (omega (arith, more, le)))
longest_holds (suc k) text = longest_by k text (accepts (take (suc k) text)) refl (longest_holds k text)

front_text : (text : List ℕ) (at : ℕ) → IsFront text at → (at ≡ 0) ⊎ ((ranges : List (ℕ × ℕ)) × IsGroupText (take at text) ranges)
front_text text at (inl e) = inl e
front_text text at (inr taken) = inr (accepted_group (take at text) taken)

text_front : (text : List ℕ) (at : ℕ) → (at ≡ 0) ⊎ ((ranges : List (ℕ × ℕ)) × IsGroupText (take at text) ranges) → IsFront text at
text_front text at (inl e) = inl e
text_front text at (inr (ranges, group)) = inr (group_accepted (take at text) ranges group)

not_accepted : (text : List ℕ) (b : Bool) → accepts text ≡ b → IsNoGroupText text → b ≡ false
not_accepted text true e none = let group = accepted_group text e in absurd (none group.0 group.1)
not_accepted text false e none = refl

refusal_from : (text : List ℕ) (at : ℕ) (o : Option (ℕ × ℕ)) → range_of (run fresh text).state ≡ o → group_from text o ≡ Err at → IsRefusedAt text at
refusal_from text at None e is =
    let same : longest_within (length text) text ≡ at = cc in
    let longest = subst (λ n. IsLongest (length text) n text) same (longest_holds (length text) text) in
    record {
      refused = refused_group text (ap is_some e);
      within = longest.0;
      front = front_text text at longest.1;
      longest = λ k more le. refused_group (take k text) (longest.2 k more le);
    }
refusal_from text at (Some last) e is = cc

pub given_refusal : (text : List ℕ) (at : ℕ) → group_of text ≡ Err at → IsRefusedAt text at
unfolding group_of
given_refusal text at is = refusal_from text at (range_of (run fresh text).state) refl is

refused_from : (text : List ℕ) (at : ℕ) (o : Option (ℕ × ℕ)) → range_of (run fresh text).state ≡ o → IsRefusedAt text at → group_from text o ≡ Err at
refused_from text at None e refused =
    ap Err (longest_is (length text) text at refused.within (text_front text at refused.front) (λ k more le. not_accepted (take k text) (accepts (take k text)) refl (refused.longest k more le)))
refused_from text at (Some last) e refused = absurd (refused.refused ((run fresh text).ranges ++ last ∷ []) (run_group text last e))

pub refused_text : (text : List ℕ) (at : ℕ) → IsRefusedAt text at → group_of text ≡ Err at
unfolding group_of
refused_text text at refused = refused_from text at (range_of (run fresh text).state) refl refused

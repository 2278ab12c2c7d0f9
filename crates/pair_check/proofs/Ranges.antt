-- The pairs of one root stand together in a rising list, from where the first would stand to where those of the next root begin.
use Rattle.std.proofs.Common.{◌≡◌, ◌∙◌, ℕ, ◌+◌, ◌-◌, ◌<◌, ◌≤◌, ◌⊎◌, List, Some, length, get_or, drop, subst, sym, ap, inl, inr, arith, Contains, length-drop}
use Rattle.std.specs.Prelude.{◌↔◌, slice_get, slice_range}
use Rattle.std.proofs.lemmas.Bool.{cases_lt}
use Rattle.std.proofs.lemmas.List.{get_or-drop, get_or-take, length-take-le}
use Rattle.std.proofs.lemmas.Option.{slice_get-get_or, get_or_from_slice_get}
use Rattle.ml_base.specs.declared.numbers.Root.{Root}
use Rattle.ml_base.specs.declared.numbers.Root.TheVariants.{Request, Entry}
use Rattle.ml_base.specs.declared.numbers.StateNo.{StateNo}
use Rattle.segment_grammar.specs.declared.potentials.Pot.{Pot}
use Rattle.segment_grammar.specs.Pots.{IsBelow, IsRising, IsRootBelow}
use Rattle.segment_grammar.proofs.Rising.{exists_at}
use Rattle.segment_grammar.proofs.Places.{at_contains, contains_at, same_at, slice_get-below}
use Rattle.pair_check.specs.Exits.{IsRootBetween}

root_below-trans : (r q u : Root) → IsRootBelow r q → IsRootBelow q u → IsRootBelow r u
root_below-trans r q Request a b = absurd b
root_below-trans r Request (Entry w) a b = absurd a
root_below-trans Request (Entry v) (Entry w) a b = tt
root_below-trans (Entry x) (Entry v) (Entry w) a b = omega arith

-- roots do not fall along a rising list
not_falling : (r q u : Root) (s t : StateNo) → IsBelow r s q t → IsRootBelow q u → IsRootBelow r u
not_falling r q u s t (inl a) b = root_below-trans r q u a b
not_falling r q u s t (inr a) b = subst (λ v. IsRootBelow v u) (sym a.0) b

module _ (pairs : List Pot) (rising : IsRising pairs) (root : Root) (low high middle : ℕ) (between : IsRootBetween pairs root low high)
    (from : low ≤ middle) (to : middle < high) (d : Pot) where
  abbrev at : Pot
  at = get_or pairs middle d

  is : slice_get pairs middle ≡ Some at
  is = slice_get-get_or pairs middle d (omega (arith, between.within))

  pub raised : IsRootBelow (get_or pairs middle d).root root → IsRootBetween pairs root (middle + 1) high
  raised below = record { ordered = omega arith; within = between.within; above = between.above; below = λ i p l e. go i p e (cases_lt i middle) l }
    where
      go : (i : ℕ) (p : Pot) → slice_get pairs i ≡ Some p → (i < middle) ⊎ (middle ≤ i) → i < middle + 1 → IsRootBelow p.root root
      go i p e (inl a) l = not_falling p.root at.root root p.state at.state (rising i middle p at a e is) below
      go i p e (inr a) l =
          let here : i ≡ middle = omega arith in
          subst (λ (v : Pot). IsRootBelow v.root root) (same_at pairs middle at p is (subst (λ k. slice_get pairs k ≡ Some p) here e)) below

  pub lowered : ¬ IsRootBelow (get_or pairs middle d).root root → IsRootBetween pairs root low middle
  lowered not_below = record { ordered = from; within = omega (arith, between.within); below = between.below; above = λ i p l e. go i p e (cases_lt middle i) l }
    where
      go : (i : ℕ) (p : Pot) → slice_get pairs i ≡ Some p → (middle < i) ⊎ (i ≤ middle) → middle ≤ i → ¬ IsRootBelow p.root root
      go i p e (inl a) l b = not_below (not_falling at.root p.root root at.state p.state (rising middle i at p a is e) b)
      go i p e (inr a) l b =
          let here : i ≡ middle = omega arith in
          not_below (subst (λ (v : Pot). IsRootBelow v.root root) (sym (same_at pairs middle at p is (subst (λ k. slice_get pairs k ≡ Some p) here e))) b)

pub from_all : (pairs : List Pot) (root : Root) (high : ℕ) → high ≡ length pairs → IsRootBetween pairs root 0 high
from_all pairs root high all = record {
  ordered = omega arith;
  within = omega arith;
  below = λ i p l e. absurd (omega arith);
  above = λ i p l e b. omega (arith, slice_get-below pairs i p e);
}

-- ---- the range of a root

module _ (pairs : List Pot) (x y : StateNo) (up : y.0 ≡ x.0 + 1) (start end : ℕ) (begins : IsRootBetween pairs (Entry x) start start)
    (ends : IsRootBetween pairs (Entry y) end end) where
  below_next : (r : Root) → IsRootBelow r (Entry x) → IsRootBelow r (Entry y)
  below_next Request b = tt
  below_next (Entry z) b = omega arith

  -- a root that is not below x, but below the next one, is x
  one_root : (r : Root) → ¬ IsRootBelow r (Entry x) → IsRootBelow r (Entry y) → r ≡ Entry x
  one_root Request n b = absurd (n tt)
  one_root (Entry z) n b = one (cases_lt z.0 x.0)
    where
      as_entry : ℕ → Root
      as_entry i = Entry (record { 0 = i })

      one : (z.0 < x.0) ⊎ (x.0 ≤ z.0) → Entry z ≡ Entry x
      one (inl l) = absurd (n l)
      one (inr m) = let same : z.0 ≡ x.0 = omega arith in ap Entry (ap (λ i. let s : StateNo = record { 0 = i } in s) same)

  pub starts_before : start ≤ end
  starts_before = go (cases_lt end start)
    where
      go : (end < start) ⊎ (start ≤ end) → start ≤ end
      go (inr l) = l
      go (inl l) =
          let here = exists_at pairs end (omega (arith, begins.within)) in
          absurd (ends.above end here.0 (omega arith) here.1 (below_next here.0.root (begins.below end here.0 l here.1)))

  size : length (slice_range pairs start end) ≡ end - start
  size = length-take-le (end - start) (drop start pairs) (omega (arith, length-drop start pairs, ends.within))

  read : (i : ℕ) (p : Pot) → i < end - start → get_or (slice_range pairs start end) i p ≡ get_or pairs (start + i) p
  read i p low = get_or-take (end - start) (drop start pairs) i p low ∙ get_or-drop start pairs i p

  -- what stands in the range has the root
  range_only : (p : Pot) → Contains (slice_range pairs start end) p → Contains pairs p × (p.root ≡ Entry x)
  range_only p c =
      let i : ℕ = c.0 in
      let low : i < end - start = omega (arith, c.1, size) in
      let within : start + i < length pairs = omega (arith, ends.within) in
      let same : get_or pairs (start + i) p ≡ p = sym (read i p low) ∙ c.2 in
      let at : slice_get pairs (start + i) ≡ Some p = slice_get-get_or pairs (start + i) p within ∙ ap Some same in
      (contains_at pairs (start + i) p at, one_root p.root (begins.above (start + i) p (omega arith) at) (ends.below (start + i) p (omega arith) at))

  entry_not_below : ¬ IsRootBelow (Entry x) (Entry x)
  entry_not_below b = omega arith

  -- and what has the root stands in the range
  range_all : (p : Pot) → Contains pairs p → p.root ≡ Entry x → Contains (slice_range pairs start end) p
  range_all p c same = go (cases_lt at.0 start) (cases_lt at.0 end)
    where
      at : (i : ℕ) × (i < length pairs) × (slice_get pairs i ≡ Some p)
      at = at_contains pairs p c

      go : (at.0 < start) ⊎ (start ≤ at.0) → (at.0 < end) ⊎ (end ≤ at.0) → Contains (slice_range pairs start end) p
      go (inl l) f = absurd (entry_not_below (subst (λ r. IsRootBelow r (Entry x)) same (begins.below at.0 p l at.2)))
      go (inr s) (inr m) = absurd (ends.above at.0 p m at.2 (subst (λ r. IsRootBelow r (Entry y)) (sym same) (let up_to : x.0 < y.0 = omega arith in up_to)))
      go (inr s) (inl l) =
          let i : ℕ = at.0 - start in
          let low : i < end - start = omega arith in
          let there : start + i ≡ at.0 = omega arith in
          let here : get_or (slice_range pairs start end) i p ≡ p = read i p low ∙ ap (λ k. get_or pairs k p) there ∙ get_or_from_slice_get pairs at.0 p p at.2 in
          (i, omega (arith, size), here)

  -- exactly the pairs of the root
  pub range_of : (p : Pot) → Contains (slice_range pairs start end) p ↔ (Contains pairs p × (p.root ≡ Entry x))
  range_of p = (range_only p, λ c. range_all p c.0 c.1)

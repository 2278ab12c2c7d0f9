-- Lists that rise by root and state, and the search for a pair by halves.
use Rattle.std.proofs.Common.{◌≡◌, ℕ, ◌+◌, ◌-◌, ◌<◌, ◌≤◌, ◌⊎◌, List, [], ◌∷◌, ◌++◌, length, sym, ◌∙◌, ap, subst, inl, inr, arith, Contains, Some, slice_get}
use Rattle.std.specs.Prelude.{Bool, true, false, IsTrue, ◌↔◌}
use Rattle.std.proofs.Math.ListN.{get_or}
use Rattle.std.proofs.lemmas.Option.{slice_get-get_or}
use Rattle.std.proofs.lemmas.Bool.{cases_lt}
use Rattle.ml_base.specs.declared.numbers.StateNo.{StateNo}
use Rattle.ml_base.specs.declared.numbers.Root.{Root}
use Rattle.ml_base.specs.declared.numbers.Root.TheVariants.{Request, Entry}
use Rattle.segment_grammar.specs.declared.potentials.Pot.{Pot}
use Rattle.segment_grammar.specs.Pots.{IsRootBelow, IsBelow, pot, IsRising, IsAboveLast, IsBetween, IsOfPair}
use Rattle.segment_grammar.proofs.Places.{slice_get-below, contains_at, at_contains, pushed_at, same_at}

root_below-trans : (r q u : Root) → IsRootBelow r q → IsRootBelow q u → IsRootBelow r u
root_below-trans r q Request a b = absurd b
root_below-trans r Request (Entry w) a b = absurd a
root_below-trans Request (Entry v) (Entry w) a b = tt
root_below-trans (Entry x) (Entry v) (Entry w) a b = omega arith

root_below-irreflexive : (r : Root) → IsRootBelow r r → ⊥
root_below-irreflexive Request a = a
root_below-irreflexive (Entry x) a = omega arith

pub below-trans : (r : Root) (s : StateNo) (q : Root) (t : StateNo) (u : Root) (v : StateNo) → IsBelow r s q t → IsBelow q t u v → IsBelow r s u v
below-trans r s q t u v (inl a) (inl b) = inl (root_below-trans r q u a b)
below-trans r s q t u v (inl a) (inr b) = inl (subst (λ w. IsRootBelow r w) b.0 a)
below-trans r s q t u v (inr a) (inl b) = inl (subst (λ w. IsRootBelow w u) (sym a.0) b)
below-trans r s q t u v (inr a) (inr b) = inr (a.0 ∙ b.0, omega arith)

pub below-irreflexive : (r : Root) (s : StateNo) → IsBelow r s r s → ⊥
below-irreflexive r s (inl a) = root_below-irreflexive r a
below-irreflexive r s (inr a) = omega arith

pub rising_pushed : (pots : List Pot) (next : Pot) → IsRising pots → IsAboveLast pots next.root next.state → IsRising (pots ++ next ∷ [])
rising_pushed pots next rising above i j p q l e f = go (pushed_at pots next i p e) (pushed_at pots next j q f)
  where
    last_below : (k : ℕ) → i < k → k + 1 ≡ length pots → slice_get pots i ≡ Some p → IsBelow p.root p.state next.root next.state
    last_below k m whole a =
        let last : Pot = get_or pots k next in
        let at : slice_get pots k ≡ Some last = slice_get-get_or pots k next (omega arith) in
        below-trans p.root p.state last.root last.state next.root next.state (rising i k p last m a at) (above k last whole at)

    to_next : slice_get pots i ≡ Some p → IsBelow p.root p.state next.root next.state
    to_next a =
        let m : i < length pots = slice_get-below pots i p a in
        elim (cases_lt (i + 1) (length pots)) as (λ v. IsBelow p.root p.state next.root next.state) [
          | inl b ↦ last_below (length pots - 1) (omega arith) (omega arith) a
          | inr b ↦ above i p (omega arith) a
        ]

    go : (slice_get pots i ≡ Some p) ⊎ (i ≡ length pots) × (p ≡ next) → (slice_get pots j ≡ Some q) ⊎ (j ≡ length pots) × (q ≡ next) → IsBelow p.root p.state q.root q.state
    go (inl a) (inl b) = rising i j p q l a b
    go (inl a) (inr b) = subst (λ v. IsBelow p.root p.state v.root v.state) (sym b.1) (to_next a)
    go (inr a) (inl b) = absurd (omega (arith, slice_get-below pots j q b))
    go (inr a) (inr b) = absurd (omega arith)

module _ (pots : List Pot) (rising : IsRising pots) (root : Root) (state : StateNo) (low high middle : ℕ) (between : IsBetween pots root state low high)
    (from : low ≤ middle) (to : middle < high) (at : Pot) (is : slice_get pots middle ≡ Some at) where
  pub between_raised : IsBelow at.root at.state root state → IsBetween pots root state (middle + 1) high
  between_raised below = record { ordered = omega arith; within = between.within; above = between.above; below = λ i p l e. go i p e (cases_lt i middle) l }
    where
      go : (i : ℕ) (p : Pot) → slice_get pots i ≡ Some p → (i < middle) ⊎ (middle ≤ i) → i < middle + 1 → IsBelow p.root p.state root state
      go i p e (inl a) l = below-trans p.root p.state at.root at.state root state (rising i middle p at a e is) below
      go i p e (inr a) l =
          let here : i ≡ middle = omega arith in
          subst (λ v. IsBelow v.root v.state root state) (same_at pots middle at p is (subst (λ k. slice_get pots k ≡ Some p) here e)) below

  pub between_lowered : (IsBelow at.root at.state root state → ⊥) → IsBetween pots root state low middle
  between_lowered not_below = record { ordered = from; within = omega (arith, between.within); below = between.below; above = λ i p l e. go i p e (cases_lt middle i) l }
    where
      go : (i : ℕ) (p : Pot) → slice_get pots i ≡ Some p → (middle < i) ⊎ (i ≤ middle) → middle ≤ i → IsBelow p.root p.state root state → ⊥
      go i p e (inl a) l b = not_below (below-trans at.root at.state p.root p.state root state (rising middle i at p a is e) b)
      go i p e (inr a) l b =
          let here : i ≡ middle = omega arith in
          not_below (subst (λ v. IsBelow v.root v.state root state) (sym (same_at pots middle at p is (subst (λ k. slice_get pots k ≡ Some p) here e))) b)

pub between_whole : (pots : List Pot) (root : Root) (state : StateNo) (high : ℕ) → high ≡ length pots → IsBetween pots root state 0 high
between_whole pots root state high whole = record {
  ordered = omega arith;
  within = omega arith;
  below = λ i p l e. absurd (omega arith);
  above = λ i p l e b. omega (arith, slice_get-below pots i p e);
}

-- a pair that does not stand at its place in the order is not listed
pub none_between : (pots : List Pot) → IsRising pots → (root : Root) (state : StateNo) (place : ℕ) → IsBetween pots root state place place
    → ((p : Pot) → slice_get pots place ≡ Some p → IsOfPair p root state → ⊥) → (p : Pot) → Contains pots p → IsOfPair p root state → ⊥
none_between pots rising root state place between none p c same = go (cases_lt at.0 place) (cases_lt place at.0)
  where
    at : (i : ℕ) × (i < length pots) × (slice_get pots i ≡ Some p)
    at = at_contains pots p c

    mine : IsBelow p.root p.state root state → ⊥
    mine b = below-irreflexive root state (subst (λ r. IsBelow r state root state) same.0 (subst (λ s. IsBelow p.root s root state) same.1 b))

    later : place < at.0 → ⊥
    later l =
        let here : Pot = get_or pots place p in
        let stands : slice_get pots place ≡ Some here = slice_get-get_or pots place p (omega (arith, at.1)) in
        let below : IsBelow here.root here.state p.root p.state = rising place at.0 here p l stands at.2 in
        between.above place here (omega arith) stands (subst (λ r. IsBelow here.root here.state r state) same.0 (subst (λ s. IsBelow here.root here.state p.root s) same.1 below))

    go : (at.0 < place) ⊎ (place ≤ at.0) → (place < at.0) ⊎ (at.0 ≤ place) → ⊥
    go (inl a) b = mine (between.below at.0 p a at.2)
    go (inr a) (inl b) = later b
    go (inr a) (inr b) = none p (subst (λ k. slice_get pots k ≡ Some p) (let here : at.0 ≡ place = omega arith in here) at.2) same

pub exists_at : (pots : List Pot) (k : ℕ) → k < length pots → (p : Pot) × (slice_get pots k ≡ Some p)
exists_at (p ∷ pots) k l = let d : Pot = get_or (p ∷ pots) k p in (d, slice_get-get_or (p ∷ pots) k p l)
exists_at [] k l = absurd (omega arith)

-- what a test that came out true or false says
pub accepted : {P : Type 0} (b : Bool) → IsTrue b ↔ P → b ≡ true → P
accepted b e t = e.0 t

pub refuted : {P : Type 0} (b : Bool) → IsTrue b ↔ P → b ≡ false → P → ⊥
refuted b e f p = let t : b ≡ true = e.1 p in cc

-- the weight at the pair's place, and none
pub weighed : (pots : List Pot) (i : ℕ) (root : Root) (state : StateNo) (read : Pot) → slice_get pots i ≡ Some read → (p : Pot) × (slice_get pots i ≡ Some p) × IsOfPair p root state
    → Contains pots (pot root state read.weight)
weighed pots i root state read at found =
    let same : read ≡ found.0 = same_at pots i read found.0 at found.1 in
    let as_pot : read ≡ pot root state read.weight = ap (λ r. pot r read.state read.weight) (ap (λ v. v.root) same ∙ found.2.0) ∙ ap (λ s. pot root s read.weight) (ap (λ v. v.state) same ∙ found.2.1) in
    subst (λ v. Contains pots v) as_pot (contains_at pots i read at)

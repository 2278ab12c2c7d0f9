-- Walks that are looked through for given steps.
use Rattle.std.proofs.Common.{◌≡◌, ◌⊎◌, ℕ, ◌+◌, ◌<◌, ◌≤◌, List, length, subst, inl, inr, arith, Some, slice_get}
use Rattle.std.specs.Prelude.{Bool, true, false, IsTrue}
use Rattle.std.proofs.lemmas.Bool.{cases_lt}
use Rattle.segment_grammar.proofs.Places.{at_contains, same_at}
use Rattle.k_cheapest.specs.declared.found.KWalk.{KWalk}
use Rattle.k_cheapest.specs.KLists.{IsListed, numbers_of}

module _ (walks : List KWalk) (ks : List ℕ) where
  -- none of the first `n` walks has the steps
  abbrev pub UnlistedBelow : ℕ → Type 0
  UnlistedBelow n = (i : ℕ) (w : KWalk) → i < n → slice_get walks i ≡ Some w → numbers_of w.steps ≡ ks → ⊥

  pub unlisted_more : (n : ℕ) (x : KWalk) → slice_get walks n ≡ Some x → (numbers_of x.steps ≡ ks → ⊥) → UnlistedBelow n → UnlistedBelow (n + 1)
  unlisted_more n x at apart before i w early found same = by_place (cases_lt i n) where
    by_place : (i < n) ⊎ (n ≤ i) → ⊥
    by_place (inl low) = before i w low found same
    by_place (inr high) =
        let last : i ≡ n = omega arith in
        let one : w ≡ x = same_at walks n w x (subst (λ v. slice_get walks v ≡ Some w) last found) at in
        apart (subst (λ v. numbers_of v.steps ≡ ks) one same)

  pub unlisted_all : (n : ℕ) → length walks ≤ n → UnlistedBelow n → IsListed walks ks → ⊥
  unlisted_all n whole before l =
      let at : (i : ℕ) × (i < length walks) × (slice_get walks i ≡ Some l.0) = at_contains walks l.0 l.1 in
      let early : at.0 < n = (let low : at.0 < length walks = at.1 in omega arith) in
      before at.0 l.0 early at.2 l.2

pub not_true : (b : Bool) → b ≡ false → IsTrue b → ⊥
not_true true e t = cc
not_true false e t = cc

-- Loops that go on as long as a test holds, and stop at the first item of which it does not.
use Rattle.std.proofs.Common.{◌≡◌, ℕ, ◌<◌, ◌≤◌, List, length, get_or, take, subst, sym, refl}
use Rattle.std.specs.Prelude.{true, false, IsTrue, ◌↔◌}
use Rattle.std.specs.List.{All}
use Rattle.std.proofs.lemmas.List.{take_all}
use Rattle.std.proofs.lemmas.List.Elements.{All-get_or}
use Rattle.std.proofs.lemmas.Option.{slice_get-get_or}
use Rattle.pair_check.specs.Rules.{IsFirstFailing}

pub never : {P : Type 0} → ¬ P → IsTrue false ↔ P
never not_p = (λ t. absurd (cc), λ p. absurd (not_p p))

module _ {A : Type 0} (P : A → Type 0) (xs : List A) where
  pub whole : (i : ℕ) → length xs ≤ i → All P (take i xs) → All P xs
  whole i low all = subst (All P) (take_all i xs low) all

  -- the loop went through
  pub all_passed : (i : ℕ) → length xs ≤ i → All P (take i xs) → IsTrue true ↔ All P xs
  all_passed i low all = (λ t. whole i low all, λ a. refl)

  -- the loop stopped
  pub one_failed : (i : ℕ) (d : A) → i < length xs → ¬ P (get_or xs i d) → IsTrue false ↔ All P xs
  one_failed i d low fails = never (λ all. fails (All-get_or P xs i d low all))

  pub first_failing : (i : ℕ) (d : A) → i < length xs → ¬ P (get_or xs i d) → All P (take i xs) → IsFirstFailing P xs i
  first_failing i d low fails before = record { item = get_or xs i d; at = slice_get-get_or xs i d low; fails = fails; before = before }

  -- the same of a list that is this one
  module _ (ys : List A) (same : xs ≡ ys) where
    pub whole_of : (i : ℕ) → length xs ≤ i → All P (take i xs) → All P ys
    whole_of i low all = subst (All P) same (whole i low all)

    pub first_failing_of : (i : ℕ) (d : A) → i < length xs → ¬ P (get_or xs i d) → All P (take i xs) → IsFirstFailing P ys i
    first_failing_of i d low fails before = subst (λ zs. IsFirstFailing P zs i) same (first_failing i d low fails before)

    pub holds_of : (i : ℕ) (d : A) → i < length xs → All P ys → P (get_or xs i d)
    holds_of i d low all = All-get_or P xs i d low (subst (All P) (sym same) all)

-- Items of lists at their places.
use Rattle.std.proofs.Common.{◌≡◌, ℕ, zero, suc, ◌+◌, ◌⊎◌, inl, inr, List, [], ◌∷◌, ◌++◌, Bool, true, false, Some, map, length, refl, sym, ◌∙◌, ap, subst, arith, Contains}
use Rattle.std.specs.Prelude.{slice_get}
use Rattle.std.specs.List.{IsDistinct}
use Rattle.std.proofs.lemmas.Option.{slice_get-get_or}
use Rattle.std.proofs.lemmas.Bool.{both_ways}
use Rattle.ml_base.proofs.Lists.{one_of_some, all_at}

pub at_right : {A : Type 0} (xs ys : List A) (k : ℕ) (x : A) (n : ℕ) → n ≡ length xs + k → slice_get ys k ≡ Some x → slice_get (xs ++ ys) n ≡ Some x
at_right [] ys k x n e at = let same : k ≡ n = omega (arith, e) in subst (λ m. slice_get ys m ≡ Some x) same at
at_right (z ∷ xs) ys k x zero e at = absurd (omega (arith, e))
at_right (z ∷ xs) ys k x (suc n) e at = at_right xs ys k x n (omega (arith, e)) at

-- the place is the j-th behind n others
abbrev pub IsBehind : {A : Type 0} → List A → ℕ → ℕ → A → Type 0
IsBehind ys n k x = (j : ℕ) × (k ≡ n + j) × (slice_get ys j ≡ Some x)

pub at_cases : {A : Type 0} (xs ys : List A) (k : ℕ) (x : A) → slice_get (xs ++ ys) k ≡ Some x → (slice_get xs k ≡ Some x) ⊎ IsBehind ys (length xs) k x
at_cases [] ys k x at = inr (k, omega arith, at)
at_cases (z ∷ xs) ys zero x at = inl at
at_cases (z ∷ xs) ys (suc k) x at = elim (at_cases xs ys k x at) as (λ v. (slice_get (z ∷ xs) (suc k) ≡ Some x) ⊎ IsBehind ys (length (z ∷ xs)) (suc k) x) [
  | inl a ↦ inl a
  | inr b ↦ inr (b.0, omega (arith, b.1), b.2)
]

pub at_contains : {A : Type 0} (xs : List A) (x : A) → Contains xs x → (k : ℕ) × (slice_get xs k ≡ Some x)
at_contains xs x c = (c.0, slice_get-get_or xs c.0 x c.1 ∙ ap Some c.2)

pub mapped_at : {A B : Type 0} (f : A → B) (xs : List A) (k : ℕ) (x : A) → slice_get xs k ≡ Some x → slice_get (map f xs) k ≡ Some (f x)
mapped_at f [] k x at = cc
mapped_at f (y ∷ ys) zero x at = ap (λ z. Some (f z)) (one_of_some at)
mapped_at f (y ∷ ys) (suc k) x at = mapped_at f ys k x at

pub at_mapped : {A B : Type 0} (f : A → B) (xs : List A) (k : ℕ) (y : B) → slice_get (map f xs) k ≡ Some y → (x : A) × (slice_get xs k ≡ Some x) × (y ≡ f x)
at_mapped f [] k y at = cc
at_mapped f (x ∷ xs) zero y at = (x, refl, sym (one_of_some at))
at_mapped f (x ∷ xs) (suc k) y at = at_mapped f xs k y at

-- keys that are distinct by a test that each passes with itself stand once
pub distinct_once : {A : Type 0} (e : A → A → Bool) → ((x : A) → e x x ≡ true) → (xs : List A) → IsDistinct e xs → (f g : ℕ) (x : A) → slice_get xs f ≡ Some x → slice_get xs g ≡ Some x → f ≡ g
unfolding IsDistinct
distinct_once e same [] d f g x at_f at_g = cc
distinct_once e same (y ∷ ys) d zero zero x at_f at_g = refl
distinct_once e same (y ∷ ys) d zero (suc g) x at_f at_g = absurd (both_ways (e y x) (all_at (λ z. e y z ≡ false) ys g x d.0 at_g) (ap (e y) (sym (one_of_some at_f)) ∙ same y))
distinct_once e same (y ∷ ys) d (suc f) zero x at_f at_g = absurd (both_ways (e y x) (all_at (λ z. e y z ≡ false) ys f x d.0 at_f) (ap (e y) (sym (one_of_some at_g)) ∙ same y))
distinct_once e same (y ∷ ys) d (suc f) (suc g) x at_f at_g = ap suc (distinct_once e same ys d.1 f g x at_f at_g)

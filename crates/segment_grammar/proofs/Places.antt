-- What stands at the places of a list.
use Rattle.std.proofs.Common.{◌≡◌, ℕ, ◌<◌, ◌⊎◌, List, [], ◌∷◌, ◌++◌, length, refl, sym, subst, ◌∙◌, ap, inl, inr, arith, Contains, Some, slice_get, zero, suc}
use Rattle.std.proofs.Math.ListN.{set, get_or}
use Rattle.std.proofs.lemmas.Option.{slice_get-get_or, get_or_from_slice_get}

-- what stands at a place is listed
pub slice_get-below : {X : Type 0} (xs : List X) (i : ℕ) (x : X) → slice_get xs i ≡ Some x → i < length xs
slice_get-below [] i x e = absurd (cc)
slice_get-below (a ∷ xs) zero x e = omega arith
slice_get-below (a ∷ xs) (suc i) x e = omega (arith, slice_get-below xs i x e)

pub contains_at : {X : Type 0} (xs : List X) (i : ℕ) (x : X) → slice_get xs i ≡ Some x → Contains xs x
contains_at xs i x e = (i, slice_get-below xs i x e, get_or_from_slice_get xs i x x e)

pub at_contains : {X : Type 0} (xs : List X) (x : X) → Contains xs x → (i : ℕ) × (i < length xs) × (slice_get xs i ≡ Some x)
at_contains xs x c = (c.0, c.1, slice_get-get_or xs c.0 x c.1 ∙ ap Some c.2)

pub same_at : {X : Type 0} (xs : List X) (i : ℕ) (x y : X) → slice_get xs i ≡ Some x → slice_get xs i ≡ Some y → x ≡ y
same_at xs i x y p q = cc

-- what stands in a list after a push, and after a write
pub pushed_at : {X : Type 0} (old : List X) (next : X) (i : ℕ) (p : X) → slice_get (old ++ next ∷ []) i ≡ Some p → (slice_get old i ≡ Some p) ⊎ (i ≡ length old) × (p ≡ next)
pushed_at [] next zero p e = inr (refl, (cc))
pushed_at [] next (suc i) p e = absurd (cc)
pushed_at (a ∷ old) next zero p e = inl e
pushed_at (a ∷ old) next (suc i) p e = elim (pushed_at old next i p e) as (λ v. (slice_get old i ≡ Some p) ⊎ (suc i ≡ suc (length old)) × (p ≡ next))
    [ inl x ↦ inl x | inr y ↦ inr (ap suc y.0, y.1) ]

pub set_at : {X : Type 0} (old : List X) (k : ℕ) (next : X) (i : ℕ) (p : X) → slice_get (set old k next) i ≡ Some p → (slice_get old i ≡ Some p) ⊎ (i ≡ k) × (p ≡ next)
set_at [] k next i p e = inl e
set_at (a ∷ old) zero next zero p e = inr (refl, (cc))
set_at (a ∷ old) zero next (suc i) p e = inl e
set_at (a ∷ old) (suc k) next zero p e = inl e
set_at (a ∷ old) (suc k) next (suc i) p e = elim (set_at old k next i p e) as (λ v. (slice_get old i ≡ Some p) ⊎ (suc i ≡ suc k) × (p ≡ next))
    [ inl x ↦ inl x | inr y ↦ inr (ap suc y.0, y.1) ]

-- what was read from a list that is seen as another
pub read_at : {X : Type 0} (xs ys : List X) → xs ≡ ys → (i : ℕ) (x : X) → x ≡ get_or xs i x → i < length ys → slice_get ys i ≡ Some x
read_at xs ys e i x read l = slice_get-get_or ys i x l ∙ ap Some (sym (subst (λ v. x ≡ get_or v i x) e read))

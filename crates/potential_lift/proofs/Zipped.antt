-- Two lists whose items belong together one by one.
use Rattle.std.proofs.Common.{◌≡◌, ℕ, zero, suc, ◌+◌, ◌<◌, List, [], ◌∷◌, ◌++◌, Some, length, get_or, take, subst, sym, refl}
use Rattle.std.specs.Prelude.{slice_get}
use Rattle.std.specs.List.{AllZip}
use Rattle.std.proofs.lemmas.List.{take_more}

module _ {A B : Type 0} (R : A → B → Type 0) where
  zip_push : (xs : List A) (ys : List B) (x : A) (y : B) → AllZip R xs ys → R x y → AllZip R (xs ++ x ∷ []) (ys ++ y ∷ [])
  zip_push [] [] x y all is = (is, tt)
  zip_push [] (b ∷ ys) x y all is = absurd all
  zip_push (a ∷ xs) [] x y all is = absurd all
  zip_push (a ∷ xs) (b ∷ ys) x y all is = (all.0, zip_push xs ys x y all.1 is)

  -- one more item of the one list
  pub zip_more : (xs : List A) (i : ℕ) (d : A) (ys : List B) (y : B) → i < length xs → AllZip R (take i xs) ys → R (get_or xs i d) y → AllZip R (take (i + 1) xs) (ys ++ y ∷ [])
  zip_more xs i d ys y low all is = subst (λ l. AllZip R l (ys ++ y ∷ [])) (sym (take_more xs i d low)) (zip_push (take i xs) ys (get_or xs i d) y all is)

  pub zip_first : (xs : List A) (ys : List B) (i : ℕ) (y : B) → AllZip R xs ys → slice_get ys i ≡ Some y → (x : A) × (slice_get xs i ≡ Some x) × R x y
  zip_first [] [] i y all at = cc
  zip_first [] (b ∷ ys) i y all at = absurd all
  zip_first (a ∷ xs) [] i y all at = absurd all
  zip_first (a ∷ xs) (b ∷ ys) zero y all at = let same : b ≡ y = cc in (a, refl, subst (R a) same all.0)
  zip_first (a ∷ xs) (b ∷ ys) (suc i) y all at = zip_first xs ys i y all.1 at

  pub zip_second : (xs : List A) (ys : List B) (i : ℕ) (x : A) → AllZip R xs ys → slice_get xs i ≡ Some x → (y : B) × (slice_get ys i ≡ Some y) × R x y
  zip_second [] [] i x all at = cc
  zip_second [] (b ∷ ys) i x all at = absurd all
  zip_second (a ∷ xs) [] i x all at = absurd all
  zip_second (a ∷ xs) (b ∷ ys) zero x all at = let same : a ≡ x = cc in (b, refl, subst (λ z. R z b) same all.0)
  zip_second (a ∷ xs) (b ∷ ys) (suc i) x all at = zip_second xs ys i x all.1 at

-- Two lists whose items belong together one by one.
use Rattle.std.proofs.Common.{◌≡◌, ℕ, zero, suc, ◌+◌, ◌<◌, List, [], ◌∷◌, ◌++◌, Some, length, get_or, take, subst, sym, refl}
use Rattle.std.specs.Prelude.{slice_get}
use Rattle.std.specs.List.{All, AllZip}
use Rattle.std.proofs.lemmas.List.{take_more}
use Rattle.std.proofs.lemmas.List.Elements.{All-contains}
use Rattle.std.proofs.lemmas.Option.{slice_get-get_or}
use Rattle.segment_grammar.proofs.Places.{contains_at}
use Rattle.pair_check.specs.Rules.{IsFirstFailing as IsFirstFailingPair}
use Rattle.verdict.specs.First.{IsFirstFailing}

module _ {A B : Type 0} (R : A → B → Type 0) where
  zip_push : (xs : List A) (ys : List B) (x : A) (y : B) → AllZip R xs ys → R x y → AllZip R (xs ++ x ∷ []) (ys ++ y ∷ [])
  zip_push [] [] x y all is = (is, tt)
  zip_push [] (b ∷ ys) x y all is = absurd all
  zip_push (a ∷ xs) [] x y all is = absurd all
  zip_push (a ∷ xs) (b ∷ ys) x y all is = (all.0, zip_push xs ys x y all.1 is)

  -- one more item of each list
  pub zip_more : (xs : List A) (i : ℕ) (d : A) (ys : List B) (y : B) → i < length xs → AllZip R (take i xs) ys → R (get_or xs i d) y → AllZip R (take (i + 1) xs) (ys ++ y ∷ [])
  zip_more xs i d ys y low all is = subst (λ l. AllZip R l (ys ++ y ∷ [])) (sym (take_more xs i d low)) (zip_push (take i xs) ys (get_or xs i d) y all is)

  pub zip_first : (xs : List A) (ys : List B) (i : ℕ) (y : B) → AllZip R xs ys → slice_get ys i ≡ Some y → (x : A) × (slice_get xs i ≡ Some x) × R x y
  zip_first [] [] i y all at = cc
  zip_first [] (b ∷ ys) i y all at = absurd all
  zip_first (a ∷ xs) [] i y all at = absurd all
  zip_first (a ∷ xs) (b ∷ ys) zero y all at = let same : b ≡ y = cc in (a, refl, subst (R a) same all.0)
  zip_first (a ∷ xs) (b ∷ ys) (suc i) y all at = zip_first xs ys i y all.1 at

  pub zip_second : (xs : List A) (ys : List B) (i : ℕ) (x : A) → AllZip R xs ys → slice_get xs i ≡ Some x → (y : B) × (slice_get ys i ≡ Some y) × R x y
  zip_second [] [] i x all at = cc
  zip_second [] (b ∷ ys) i x all at = absurd all
  zip_second (a ∷ xs) [] i x all at = absurd all
  zip_second (a ∷ xs) (b ∷ ys) zero x all at = let same : a ≡ x = cc in (b, refl, subst (λ z. R z b) same all.0)
  zip_second (a ∷ xs) (b ∷ ys) (suc i) x all at = zip_second xs ys i x all.1 at

  pub zip_length : (xs : List A) (ys : List B) → AllZip R xs ys → length xs ≡ length ys
  zip_length [] [] all = refl
  zip_length [] (b ∷ ys) all = absurd all
  zip_length (a ∷ xs) [] all = absurd all
  zip_length (a ∷ xs) (b ∷ ys) all = let rest = zip_length xs ys all.1 in cc

  zip_take : (k : ℕ) (xs : List A) (ys : List B) → AllZip R xs ys → AllZip R (take k xs) (take k ys)
  zip_take zero xs ys all = tt
  zip_take (suc k) [] [] all = tt
  zip_take (suc k) [] (b ∷ ys) all = absurd all
  zip_take (suc k) (a ∷ xs) [] all = absurd all
  zip_take (suc k) (a ∷ xs) (b ∷ ys) all = (all.0, zip_take k xs ys all.1)

  module _ (P : B → Type 0) (Q : A → Type 0) (up : (x : A) (y : B) → R x y → P y → Q x) where
    -- what holds of each item of the one holds of each of the other
    pub zip_all : (xs : List A) (ys : List B) → AllZip R xs ys → All P ys → All Q xs
    zip_all xs ys zip all = λ k d low.
        let of = zip_second xs ys k (get_or xs k d) zip (slice_get-get_or xs k d low) in
        up (get_or xs k d) of.0 of.2 (All-contains P ys of.0 all (contains_at ys k of.0 of.1))

    -- and the first of which it fails stands at one place
    pub zip_failing : ((x : A) (y : B) → R x y → Q x → P y) → (xs : List A) (ys : List B) (k : ℕ) → AllZip R xs ys → IsFirstFailingPair P ys k → IsFirstFailing Q xs k
    zip_failing down xs ys k zip f =
        let of = zip_first xs ys k f.item zip f.at in
        record { item = of.0; at = of.1; fails = λ q. f.fails (down of.0 f.item of.2 q); before = zip_all (take k xs) (take k ys) (zip_take k xs ys zip) f.before }

-- Lists whose keys stand at rising places: no key comes twice, and a key finds its item.
use Rattle.std.proofs.Common.{◌≡◌, ℕ, ◌+◌, ◌<◌, ◌≤◌, inl, inr, List, [], ◌∷◌, ◌++◌, false, None, Some, map, refl, sym, ap, arith}
use Rattle.std.specs.List.{find, AllByRecursion}
use Rattle.std.specs.Str.{bytes_eq}
use Rattle.std.proofs.lemmas.Bool.{false_from_ne_true}
use Rattle.std.proofs.lemmas.Slice.Eq.{bytes_eq-Decides}
use Rattle.ml_base.specs.Lists.{IsAmong}
use Rattle.circuit_spec.specs.Network.{Name}
use Rattle.circuit_spec.specs.Faults.{repeats_after}
use Rattle.topo_gen.proofs.Each.{all_join, all_weaker}

-- the items stand at rising places, from this one on
abbrev pub Rises : {A : Type 0} → (A → ℕ) → ℕ → List A → Type 0
Rises place least [] = Unit {0}
Rises place least (x ∷ xs) = (least ≤ place x) × Rises place (place x + 1) xs

pub rises_from : {A : Type 0} (place : A → ℕ) (m n : ℕ) (xs : List A) → m ≤ n → Rises place n xs → Rises place m xs
rises_from place m n [] below r = tt
rises_from place m n (x ∷ xs) below r = (omega (arith, r.0), r.1)

-- the same of what is made of the items, and of the items by what is made of them
pub rises_before_map : {A B : Type 0} (place : B → ℕ) (f : A → B) (n : ℕ) (xs : List A) → Rises place n (map f xs) → Rises (λ x. place (f x)) n xs
rises_before_map place f n [] r = tt
rises_before_map place f n (x ∷ xs) r = (r.0, rises_before_map place f (place (f x) + 1) xs r.1)

pub rises_mapped : {A B : Type 0} (place : B → ℕ) (f : A → B) (n : ℕ) (xs : List A) → Rises (λ x. place (f x)) n xs → Rises place n (map f xs)
rises_mapped place f n [] r = tt
rises_mapped place f n (x ∷ xs) r = (r.0, rises_mapped place f (place (f x) + 1) xs r.1)

among_above : {A : Type 0} (place : A → ℕ) (n : ℕ) (xs : List A) (x : A) → Rises place n xs → IsAmong xs x → n ≤ place x
among_above place n [] x r h = absurd h
among_above place n (y ∷ ys) x r (inl e) = omega (arith, r.0, ap place e)
among_above place n (y ∷ ys) x r (inr later) = omega (arith, r.0, among_above place (place y + 1) ys x r.1 later)

module _ {A : Type 0} (key : A → Name) (place : Name → ℕ) where
  differs : (x y : Name) → (place x ≡ place y → ⊥) → bytes_eq x y ≡ false
  differs x y apart = false_from_ne_true (bytes_eq x y) (λ e. apart (ap place ((bytes_eq-Decides x y).0 e)))

  unfound : (id : Name) (xs : List A) → AllByRecursion (λ y. place (key y) < place id) xs → find (λ y. bytes_eq (key y) id) xs ≡ None
  unfound id [] below = refl
  unfound id (y ∷ ys) below = rw (differs (key y) id (λ e. omega (arith, below.0, e))) (unfound id ys below.1)

  -- no key comes twice
  pub no_repeats : (n : ℕ) (before xs : List A) → AllByRecursion (λ y. place (key y) < n) before → Rises (λ x. place (key x)) n xs → repeats_after key before xs ≡ []
  no_repeats n before [] below r = refl
  no_repeats n before (x ∷ xs) below r =
      let next = place (key x) in
      rw (unfound (key x) before (all_weaker (λ y. place (key y) < n) (λ y. place (key y) < next) (λ y h. omega (arith, r.0, h)) before below))
      (no_repeats (next + 1) (before ++ x ∷ []) xs
      (all_join (λ y. place (key y) < next + 1) before (x ∷ []) (all_weaker (λ y. place (key y) < n) (λ y. place (key y) < next + 1) (λ y h. omega (arith, r.0, h)) before below) (omega arith, tt))
      r.1)

  -- a key finds its item
  pub found : (n : ℕ) (xs : List A) (x : A) → Rises (λ y. place (key y)) n xs → IsAmong xs x → find (λ y. bytes_eq (key y) (key x)) xs ≡ Some x
  found n [] x r h = absurd h
  found n (y ∷ ys) x r (inl e) = rw ((bytes_eq-Decides (key y) (key x)).1 (ap key (sym e))) (ap Some (sym e))
  found n (y ∷ ys) x r (inr later) =
      rw (differs (key y) (key x) (λ e. omega (arith, e, among_above (λ z. place (key z)) (place (key y) + 1) ys x r.1 later)))
      (found (place (key y) + 1) ys x r.1 later)

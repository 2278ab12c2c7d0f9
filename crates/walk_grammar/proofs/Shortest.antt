-- Of the lists over finitely many items of which a fact holds that can be decided there is a shortest: so a system whose steps are
-- finitely many, and whose runs can be decided, has a shortest run of each kind that it has.
use Rattle.std.proofs.Common.{◌≡◌, ◌≤◌, ◌⊎◌, ℕ, zero, suc, inl, inr, List, [], ◌∷◌, length, refl, ap, subst, arith}
use Rattle.std.specs.List.{AllByRecursion}
use Rattle.std.proofs.lemmas.Bool.{cases_lt}

-- the fact holds, or it does not
abbrev pub Decided : Type 0 → Type 0
Decided A = A ⊎ (¬ A)

-- the item is one of the list
abbrev pub IsOneOf : {A : Type 0} → List A → A → Type 0
IsOneOf [] x = ⊥
IsOneOf (y ∷ ys) x = (x ≡ y) ⊎ IsOneOf ys x

-- Some item of a list, where it can be decided of each.

abbrev pub Some-of : {A : Type 0} → List A → (A → Type 0) → Type 0
Some-of {A} items Q = (a : A) × IsOneOf items a × Q a

one_more : {A : Type 0} (a : A) (items : List A) (Q : A → Type 0) → Decided (Q a) → Decided (Some-of items Q) → Decided (Some-of (a ∷ items) Q)
one_more a items Q (inl q) later = inl (a, inl refl, q)
one_more a items Q (inr never) (inl (b, is, q)) = inl (b, inr is, q)
one_more {A} a items Q (inr never) (inr none) = inr (λ some. neither some.0 some.1 some.2) where
  neither : (b : A) → IsOneOf (a ∷ items) b → Q b → ⊥
  neither b (inl e) q = never (subst Q e q)
  neither b (inr is) q = none (b, is, q)

pub decide_some : {A : Type 0} (items : List A) (Q : A → Type 0) → ((a : A) → Decided (Q a)) → Decided (Some-of items Q)
decide_some [] Q dec = inr (λ some. some.1)
decide_some (a ∷ items) Q dec = one_more a items Q (dec a) (decide_some items Q dec)

-- Some list of a length over finitely many items.

abbrev Of-length : {A : Type 0} → List A → ℕ → (List A → Type 0) → Type 0
Of-length {A} items n Q = (ks : List A) × (length ks ≡ n) × AllByRecursion (IsOneOf items) ks × Q ks

longer : {A : Type 0} (items : List A) (n : ℕ) (Q : List A → Type 0) → Decided (Some-of items (λ a. Of-length items n (λ ks. Q (a ∷ ks)))) → Decided (Of-length items (suc n) Q)
longer items n Q (inl (a, is, (ks, e, all, q))) = inl (a ∷ ks, ap suc e, (is, all), q)
longer {A} items n Q (inr none) = inr (λ some. neither some.0 some.1 some.2 some.3) where
  neither : (ks : List A) → length ks ≡ suc n → AllByRecursion (IsOneOf items) ks → Q ks → ⊥
  neither [] e all q = absurd (omega arith)
  neither (a ∷ ks) e all q = none (a, all.0, (ks, omega arith, all.1, q))

empty : {A : Type 0} (items : List A) (Q : List A → Type 0) → Decided (Q []) → Decided (Of-length items 0 Q)
empty items Q (inl q) = inl ([], refl, tt, q)
empty {A} items Q (inr never) = inr (λ some. neither some.0 some.1 some.3) where
  neither : (ks : List A) → length ks ≡ 0 → Q ks → ⊥
  neither [] e q = never q
  neither (a ∷ ks) e q = absurd (omega arith)

of_length : {A : Type 0} (items : List A) (n : ℕ) (Q : List A → Type 0) → ((ks : List A) → Decided (Q ks)) → Decided (Of-length items n Q)
of_length items zero Q dec = empty items Q (dec [])
of_length items (suc n) Q dec = longer items n Q (decide_some items _ (λ a. of_length items n (λ ks. Q (a ∷ ks)) (λ ks. dec (a ∷ ks))))

-- The shortest.

pub record Shortest {A : Type 0} (Q : List A → Type 0) : Type 0 where
  pub list : List A
  pub holds : Q list
  pub least : (others : List A) → Q others → length list ≤ length others

module _ {A : Type 0} (items : List A) (Q : List A → Type 0) (dec : (ks : List A) → Decided (Q ks)) (only : (ks : List A) → Q ks → AllByRecursion (IsOneOf items) ks) where
  next_length : (n : ℕ) → ((ks : List A) → Q ks → n ≤ length ks) → Decided (Of-length items n Q) → Shortest Q ⊎ ((ks : List A) → Q ks → suc n ≤ length ks)
  next_length n none (inl (ks, e, all, q)) = inl (record { list = ks; holds = q; least = λ others other. omega (arith, e, none others other) })
  next_length n none (inr never) = inr (λ ks q. by_length n ks q (none ks q) never) where
    by_length : (n : ℕ) (ks : List A) → Q ks → n ≤ length ks → (¬ Of-length items n Q) → suc n ≤ length ks
    by_length n ks q low never = elim (cases_lt n (length ks)) [
      | inl above ↦ above
      | inr same ↦ absurd (never (ks, omega (arith, low, same), only ks q, q))
    ]

  from_length : (n : ℕ) → Shortest Q ⊎ ((ks : List A) → Q ks → n ≤ length ks)
  from_length zero = inr (λ ks q. omega arith)
  from_length (suc n) = elim (from_length n) [
    | inl found ↦ inl found
    | inr none ↦ next_length n none (of_length items n Q dec)
  ]

  -- Of the lists over finitely many items of which a decided fact holds there is a shortest.
  pub shortest : (ks : List A) → Q ks → Shortest Q
  shortest ks q = elim (from_length (suc (length ks))) [
    | inl found ↦ found
    | inr none ↦ absurd (let low : suc (length ks) ≤ length ks = none ks q in omega arith)
  ]

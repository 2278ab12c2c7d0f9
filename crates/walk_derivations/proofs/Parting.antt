-- Two ways to part one list at an item: at the same place, or one of them later.
use Rattle.std.proofs.Common.{◌≡◌, List, [], ◌∷◌, ◌++◌, refl}

pub data Parts {A : Type 0} (us : List A) (a : A) (vs us' : List A) (a' : A) (vs' : List A) : Type 0 where
  Same : us ≡ us' → a ≡ a' → vs ≡ vs' → Parts us a vs us' a' vs'
  Later : (ws : List A) → us' ≡ us ++ a ∷ ws → vs ≡ ws ++ a' ∷ vs' → Parts us a vs us' a' vs'
  Sooner : (ws : List A) → us ≡ us' ++ a' ∷ ws → vs' ≡ ws ++ a ∷ vs → Parts us a vs us' a' vs'

pub parts : {A : Type 0} (us : List A) (a : A) (vs us' : List A) (a' : A) (vs' : List A) → us ++ a ∷ vs ≡ us' ++ a' ∷ vs' → Parts us a vs us' a' vs'
parts [] a vs [] a' vs' e = Same refl (cc) (cc)
parts [] a vs (b ∷ us') a' vs' e = Later us' (cc) (cc)
parts (b ∷ us) a vs [] a' vs' e = Sooner us (cc) (cc)
parts (b ∷ us) a vs (c ∷ us') a' vs' e =
    let first : b ≡ c = cc in
    elim (parts us a vs us' a' vs' (cc)) [
      | Same p q r ↦ Same (cc) q r
      | Later ws p q ↦ Later ws (cc) q
      | Sooner ws p q ↦ Sooner ws (cc) q
    ]

-- no item is in the empty list
pub not_empty : {A : Type 0} (us : List A) (a : A) (vs : List A) → [] ≡ us ++ a ∷ vs → ⊥
not_empty [] a vs e = cc
not_empty (b ∷ us) a vs e = cc

pub record Ends {A : Type 0} (us us' : List A) (a a' : A) : Type 0 where
  pub before : us ≡ us'
  pub last : a ≡ a'

-- lists are equal where what is before the last items and the last items are
pub ends : {A : Type 0} (us us' : List A) (a a' : A) → us ++ a ∷ [] ≡ us' ++ a' ∷ [] → Ends us us' a a'
ends us us' a a' e = elim (parts us a [] us' a' [] e) [
  | Same p q r ↦ record { before = p; last = q }
  | Later ws p q ↦ absurd (not_empty ws a' [] q)
  | Sooner ws p q ↦ absurd (not_empty ws a [] q)
]

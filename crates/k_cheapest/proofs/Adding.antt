-- Sets of walks that are added to those that wait, of no kind, of one and of several.
use Rattle.std.proofs.Common.{◌≡◌, ◌⊎◌, ℕ, ◌+◌, ◌<◌, ◌≤◌, List, ◌∷◌, length, sym, ◌∙◌, ap, subst, inl, inr, arith, Contains, Some, slice_get}
use Rattle.std.specs.List.Sorted.{IsPermutation}
use Rattle.std.proofs.lemmas.List.Sorted.{IsPermutation-sym, Contains-permutation}
use Rattle.k_cheapest.proofs.Heads.{first_in, later_in, cons_cases}
use Rattle.std.proofs.lemmas.Bool.{cases_lt}
use Rattle.ml_base.specs.declared.numbers.StateNo.{StateNo}
use Rattle.adapt_machine.specs.declared.MachineStep.{MachineStep}
use Rattle.segment_grammar.proofs.Places.{contains_at, at_contains}
use Rattle.k_cheapest.specs.declared.item.Item.{Item}
use Rattle.k_cheapest.specs.Items.{IsItem, Has, Adds, Among}

module _ (steps : List MachineStep) (starts : List StateNo) where
  -- nothing is added for what there is nothing of
  pub adds_none : (Kind : List ℕ → Type 0) (old : List Item) → ((ks : List ℕ) → Kind ks → ⊥) → Adds steps starts Kind old old
  adds_none Kind old none = record { kept = λ i c. c; only = λ i c. inl c; covered = λ ks k. absurd (none ks k) }

  -- one item is added
  pub adds_one : (Kind : List ℕ → Type 0) (old new : List Item) (i : Item) → IsPermutation (i ∷ old) new → IsItem steps starts i
      → ((ks : List ℕ) → Has steps starts i ks → Kind ks) → ((ks : List ℕ) → Kind ks → Has steps starts i ks) → Adds steps starts Kind old new
  adds_one Kind old new i moved is sound all = record {
    kept = λ j c. Contains-permutation (i ∷ old) new j moved (later_in i old j c);
    only = λ j c. elim (cons_cases i old j (Contains-permutation new (i ∷ old) j (IsPermutation-sym (i ∷ old) new moved) c)) as (λ v. Contains old j ⊎ (IsItem steps starts j × ((ks : List ℕ) → Has steps starts j ks → Kind ks))) [
      | inl s ↦ inr (subst (λ v. IsItem steps starts v) s is, λ ks h. sound ks (subst (λ v. Has steps starts v ks) (sym s) h))
      | inr o ↦ inl o
    ];
    covered = λ ks k. (i, Contains-permutation (i ∷ old) new i moved (first_in i old), all ks k);
  }

  -- the same kind, in other words
  pub adds_same : (Kind Other : List ℕ → Type 0) (old new : List Item) → ((ks : List ℕ) → Kind ks → Other ks) → ((ks : List ℕ) → Other ks → Kind ks)
      → Adds steps starts Kind old new → Adds steps starts Other old new
  adds_same Kind Other old new there back adds = record {
    kept = adds.kept;
    only = λ i c. elim (adds.only i c) as (λ v. Contains old i ⊎ (IsItem steps starts i × ((ks : List ℕ) → Has steps starts i ks → Other ks))) [
      | inl o ↦ inl o
      | inr n ↦ inr (n.0, λ ks h. there ks (n.1 ks h))
    ];
    covered = λ ks k. adds.covered ks (back ks k);
  }

  -- two kinds, one after the other
  pub adds_both : (One Two Both : List ℕ → Type 0) (old mid new : List Item) → Adds steps starts One old mid → Adds steps starts Two mid new
      → ((ks : List ℕ) → One ks → Both ks) → ((ks : List ℕ) → Two ks → Both ks) → ((ks : List ℕ) → Both ks → One ks ⊎ Two ks) → Adds steps starts Both old new
  adds_both One Two Both old mid new first second one two both = record {
    kept = λ i c. second.kept i (first.kept i c);
    only = λ i c. elim (second.only i c) as (λ v. Contains old i ⊎ (IsItem steps starts i × ((ks : List ℕ) → Has steps starts i ks → Both ks))) [
      | inl m ↦ elim (first.only i m) as (λ v. Contains old i ⊎ (IsItem steps starts i × ((ks : List ℕ) → Has steps starts i ks → Both ks))) [
        | inl o ↦ inl o
        | inr n ↦ inr (n.0, λ ks h. one ks (n.1 ks h))
      ]
      | inr n ↦ inr (n.0, λ ks h. two ks (n.1 ks h))
    ];
    covered = λ ks k. elim (both ks k) as (λ v. (i : Item) × Contains new i × Has steps starts i ks) [
      | inl a ↦ (let was : (i : Item) × Contains mid i × Has steps starts i ks = first.covered ks a in (was.0, second.kept was.0 was.1, was.2))
      | inr b ↦ second.covered ks b
    ];
  }

  module _ {X : Type 0} (Kind : X → List ℕ → Type 0) (xs : List X) where
    -- a loop's begin
    pub adds_begun : (old : List Item) → Adds steps starts (Among Kind xs 0) old old
    adds_begun old = adds_none (Among Kind xs 0) old (λ ks a. (let low : a.number < 0 = a.early in absurd (omega arith)))

    more_cases : (n : ℕ) (x : X) → slice_get xs n ≡ Some x → (ks : List ℕ) → Among Kind xs (n + 1) ks → Among Kind xs n ks ⊎ Kind x ks
    more_cases n x found ks a = by_place (cases_lt a.number n) where
      by_place : (a.number < n) ⊎ (n ≤ a.number) → Among Kind xs n ks ⊎ Kind x ks
      by_place (inl early) = inl (record { number = a.number; early = early; item = a.item; found = a.found; is = a.is })
      by_place (inr late) =
          let last : a.number ≡ n = (let early : a.number < n + 1 = a.early in omega arith) in
          let same : Some a.item ≡ Some x = sym a.found ∙ ap (λ i. slice_get xs i) last ∙ found in
          let item : a.item ≡ x = cc in
          inr (subst (λ v. Kind v ks) item a.is)

    -- a loop's turn
    pub adds_more : (n : ℕ) (x : X) → slice_get xs n ≡ Some x → (old mid new : List Item) → Adds steps starts (Among Kind xs n) old mid → Adds steps starts (Kind x) mid new
        → Adds steps starts (Among Kind xs (n + 1)) old new
    adds_more n x found old mid new first second = adds_both (Among Kind xs n) (Kind x) (Among Kind xs (n + 1)) old mid new first second
        (λ ks a. record { number = a.number; early = (let early : a.number < n = a.early in omega arith); item = a.item; found = a.found; is = a.is })
        (λ ks k. record { number = n; early = omega arith; item = x; found = found; is = k })
        (more_cases n x found)

    -- a loop's end, over a list that has each item that there is something for
    pub adds_among : (Whole : List ℕ → Type 0) (n : ℕ) → n ≡ length xs → ((x : X) (ks : List ℕ) → Contains xs x → Kind x ks → Whole ks) → ((ks : List ℕ) → Whole ks → (x : X) × Contains xs x × Kind x ks)
        → (old new : List Item) → Adds steps starts (Among Kind xs n) old new → Adds steps starts Whole old new
    adds_among Whole n whole there back old new adds =
        adds_same (Among Kind xs n) Whole old new (λ ks a. there a.item ks (contains_at xs a.number a.item a.found) a.is) (λ ks w. among ks (back ks w)) adds where
          among : (ks : List ℕ) → (x : X) × Contains xs x × Kind x ks → Among Kind xs n ks
          among ks b =
              let at : (i : ℕ) × (i < length xs) × (slice_get xs i ≡ Some b.0) = at_contains xs b.0 b.1 in
              record { number = at.0; early = subst (λ m. at.0 < m) (sym whole) at.1; item = b.0; found = at.2; is = b.2 }

    pub adds_listed : (Whole : List ℕ → Type 0) (n : ℕ) → n ≡ length xs → ((x : X) (ks : List ℕ) → Kind x ks → Whole ks) → ((ks : List ℕ) → Whole ks → (x : X) × Contains xs x × Kind x ks)
        → (old new : List Item) → Adds steps starts (Among Kind xs n) old new → Adds steps starts Whole old new
    adds_listed Whole n whole there back old new adds = adds_among Whole n whole (λ x ks c k. there x ks k) back old new adds

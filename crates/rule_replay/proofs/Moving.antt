-- The hops by number are those of the rules in another order.
use Rattle.std.proofs.Common.{◌≡◌, ◌≢◌, ◌⊎◌, inl, inr, ℕ, zero, suc, ◌+◌, ◌<◌, ◌≤◌, List, [], ◌∷◌, ◌++◌, Some, length, refl, sym, ◌∙◌, ap, subst, arith}
use Rattle.std.specs.Prelude.{slice_get}
use Rattle.std.specs.List.{Contains, remove}
use Rattle.std.specs.List.Sorted.{IsPermutation}
use Rattle.std.proofs.lemmas.List.Sorted.{Contains-permutation, IsPermutation-cons, IsPermutation-refl, IsPermutation-remove, IsPermutation-sym, IsPermutation-trans, length_permutation}
use Rattle.std.proofs.lemmas.List.{nil_from_length}
use Rattle.circuit_spec.specs.declared.hops.Hop.{Hop}
use Rattle.device_rules.specs.declared.rules.Rule.{Rule}
use Rattle.device_rules.specs.Numbering.{numbered}
use Rattle.table_replay.proofs.Places.{contains_cases}
use Rattle.rule_replay.specs.Replaying.{AreByNumber}
use Rattle.rule_replay.specs.Slots.{AreFirstByNumber, HasRule}

abbrev make_rule : ℕ → Hop → Rule
make_rule n hop = record { number = n; hop = hop }

moved_from : (hops : List Hop) (n : ℕ) (rules : List Rule) → length rules ≡ length hops → ((k : ℕ) (hop : Hop) → slice_get hops k ≡ Some hop → HasRule rules (n + k) hop) → IsPermutation (numbered n hops) rules
moved_from [] n rules long each = subst (λ rs. IsPermutation [] rs) (sym (nil_from_length rules long)) (IsPermutation-refl [])
moved_from (h ∷ hops) n rules long each =
    IsPermutation-trans (numbered n (h ∷ hops)) (make_rule n h ∷ left) rules (IsPermutation-cons (make_rule n h) (numbered (suc n) hops) left (moved_from hops (suc n) left shorter later)) (IsPermutation-sym rules (make_rule n h ∷ left) out)
  where
    first : Contains rules (make_rule n h)
    first = subst (λ m. HasRule rules m h) (omega arith) (each 0 h refl)

    left : List Rule
    left = remove rules first.0

    out : IsPermutation rules (make_rule n h ∷ remove rules first.0)
    out = IsPermutation-remove rules first.0 (make_rule n h) first.1 (sym first.2)

    shorter : length (remove rules first.0) ≡ length hops
    shorter = let same = length_permutation rules (make_rule n h ∷ remove rules first.0) out in omega (arith, same, long)

    later : (k : ℕ) (hop : Hop) → slice_get hops k ≡ Some hop → HasRule (remove rules first.0) (suc n + k) hop
    later k hop at =
        let there : HasRule rules (n + suc k) hop = each (suc k) hop at in
        let number : n + suc k ≡ suc n + k = omega arith in
        let held = Contains-permutation rules (make_rule n h ∷ remove rules first.0) (make_rule (suc n + k) hop) out (subst (λ m. HasRule rules m hop) number there) in
        elim (contains_cases (make_rule n h) (make_rule (suc n + k) hop) (remove rules first.0) held) as (λ v. HasRule (remove rules first.0) (suc n + k) hop) [
          | inl same ↦ absurd (let e = ap (λ (r : Rule). r.number) same in omega (arith, e))
          | inr c ↦ c
        ]

pub all_by_number : (rules : List Rule) (hops : List Hop) (n : ℕ) → n ≡ length rules → AreFirstByNumber rules hops n → AreByNumber rules hops
all_by_number rules hops n all first =
    moved_from hops 1 rules (sym all ∙ sym first.counted) (λ k hop at. subst (λ m. HasRule rules m hop) (omega arith) (first.each k hop at))

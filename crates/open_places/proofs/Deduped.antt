-- Sorted places without those that stand twice.
use Rattle.std.proofs.Common.{◌≡◌, ◌∙◌, sym, subst, List, [], Bool}
use Rattle.std.specs.Prelude.{◌↔◌}
use Rattle.std.specs.List.{Contains}
use Rattle.std.specs.List.Retain.{DiffersFromLast, IsFiltered}
use Rattle.std.specs.List.Sorted.{IsSorted, IsPermutation}
use Rattle.std.specs.Ordering.{eq_by_cmp}
use Rattle.std.specs.Cmp.{IsEquivalence}
use Rattle.std.proofs.lemmas.Cmp.{eq_by_cmp_equiv}
use Rattle.std.proofs.lemmas.Map.Views.{tells_apart}
use Rattle.std.proofs.lemmas.List.Filters.{dedup_is}
use Rattle.std.proofs.lemmas.List.Kept.{IsStrictlySortedBy-dedup, Contains-dedup, Contains-from_dedup}
use Rattle.std.proofs.lemmas.List.Sorted.{Contains-permutation, IsPermutation-sym}
use Rattle.circuit_spec.specs.declared.hops.PlaceName.{PlaceName}
use Rattle.open_places.specs.Places.{place_cmp, IsRising}
use Rattle.open_places.proofs.Ordered.{place_total, exact_places}

-- the test tells two places apart where the order does
abbrev pub TiesBy : (PlaceName → PlaceName → Bool) → Type 0
TiesBy E = (x y : PlaceName) → E x y ≡ eq_by_cmp place_cmp x y

tied_equiv : (E : PlaceName → PlaceName → Bool) → TiesBy E → IsEquivalence E
tied_equiv E ties =
    let laws = eq_by_cmp_equiv place_total in
    record {
      refl = λ x. ties x x ∙ laws.refl x;
      symm = λ x y. ties x y ∙ laws.symm x y ∙ sym (ties y x);
      congr = λ x y z same. ties x z ∙ laws.congr x y z (sym (ties x y) ∙ same) ∙ sym (ties y z);
    }

pub deduped_rise : (E : PlaceName → PlaceName → Bool) (xs ys : List PlaceName) → TiesBy E → IsFiltered (DiffersFromLast E) [] xs ys → IsSorted place_cmp xs → IsRising ys
deduped_rise E xs ys ties cut up = subst IsRising (sym (dedup_is E xs ys cut)) (IsStrictlySortedBy-dedup place_total ties xs up)

pub deduped_same : (E : PlaceName → PlaceName → Bool) (ws xs ys : List PlaceName) → TiesBy E → IsPermutation ws xs → IsFiltered (DiffersFromLast E) [] xs ys → (place : PlaceName) → Contains ys place ↔ Contains ws place
deduped_same E ws xs ys ties moved cut place = (
  λ held. Contains-permutation xs ws place (IsPermutation-sym ws xs moved) (Contains-from_dedup E xs place (subst (λ (zs : List PlaceName). Contains zs place) (dedup_is E xs ys cut) held)),
  λ held. subst (λ (zs : List PlaceName). Contains zs place) (sym (dedup_is E xs ys cut)) (Contains-dedup (tied_equiv E ties) (λ x y same. tells_apart exact_places x y (sym (ties x y) ∙ same)) xs place (Contains-permutation ws xs place moved held)),
)

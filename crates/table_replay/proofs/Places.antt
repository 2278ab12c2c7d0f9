-- The test of two places says whether they are the same.
use Rattle.std.proofs.Common.{◌≡◌, List, [], ◌∷◌, ◌++◌, Bool, true, false, ◌||◌, not, Option, None, Some, cond, ℕ, ◌+◌, ◌⊎◌, inl, inr, refl, sym, ◌∙◌, subst, arith}
use Rattle.std.specs.List.{Contains, list_any, position, position_from}
use Rattle.std.proofs.lemmas.Bool.{or_cases, or_left, or_right}
use Rattle.std.proofs.lemmas.Iterator.Adapters.{position_from-zero}
use Rattle.std.proofs.lemmas.List.Elements.{Contains-append_cases, Contains-append_left, Contains-append_right, Contains-push_cases}
use Rattle.circuit_spec.specs.declared.hops.PlaceName.{PlaceName}
use Rattle.circuit_spec.specs.Flags.{same_place}
use Rattle.circuit_spec.specs.Network.{Name, Tag}
use Rattle.circuit_spec.proofs.Places.{same_places, place_itself}
use Rattle.table_replay.specs.Tabled.{Meets}

abbrev pub make_place : Name → Tag → PlaceName
make_place class label = record { class = class; label = label }

pub contains_cases : {A : Type 0} (x y : A) (xs : List A) → Contains (x ∷ xs) y → (x ≡ y) ⊎ Contains xs y
contains_cases x y xs held = go (Contains-append_cases (x ∷ []) xs y held)
  where
    none : Contains [] y → ⊥
    none c = omega (arith, c.1)

    go : Contains (x ∷ []) y ⊎ Contains xs y → (x ≡ y) ⊎ Contains xs y
    go (inl c) = elim (Contains-push_cases [] x y c) as (λ v. (x ≡ y) ⊎ Contains xs y) [ inl n ↦ absurd (none n) | inr e ↦ inl e ]
    go (inr c) = inr c

-- a place that is not found is not there
none_by : (n : ℕ) (x y : PlaceName) (found : Option ℕ) (Later : Type 0) → (b : Bool) → same_place y x ≡ b → cond b (Some n) found ≡ None → (found ≡ None → Later → ⊥) → (x ≡ y) ⊎ Later → ⊥
none_by n x y found Later true t f next c = cc
none_by n x y found Later false t f next (inl same) = let s : same_place y x ≡ true = subst (λ z. same_place y z ≡ true) (sym same) (place_itself y) in cc
none_by n x y found Later false t f next (inr later) = next f later

none_from : (n : ℕ) (xs : List PlaceName) (y : PlaceName) → position_from (same_place y) n xs ≡ None → Contains xs y → ⊥
none_from n [] y e held = omega (arith, held.1)
none_from n (x ∷ xs) y e held =
    none_by n x y (position_from (same_place y) (n + 1) xs) (Contains xs y) (same_place y x) refl e (λ f later. none_from (n + 1) xs y f later) (contains_cases x y xs held)

pub not_found : (xs : List PlaceName) (y : PlaceName) → position (same_place y) xs ≡ None → Contains xs y → ⊥
not_found xs y e held = none_from 0 xs y (sym (position_from-zero (same_place y) xs) ∙ e) held

-- ---- places that were met

any_held : (keys : List PlaceName) (place : PlaceName) → list_any (same_place place) keys ≡ true → Contains keys place
any_held [] place t = absurd (cc)
any_held (x ∷ keys) place t =
    elim (or_cases (same_place place x) (list_any (same_place place) keys) t) as (λ v. Contains (x ∷ keys) place) [
      | inl here ↦ Contains-append_left (x ∷ []) keys place (0, omega arith, sym (same_places place x here))
      | inr later ↦ Contains-append_right (x ∷ []) keys place (any_held keys place later)
    ]

held_any : (keys : List PlaceName) (place : PlaceName) → Contains keys place → list_any (same_place place) keys ≡ true
held_any [] place held = absurd (omega (arith, held.1))
held_any (x ∷ keys) place held =
    elim (contains_cases x place keys held) as (λ v. same_place place x || list_any (same_place place) keys ≡ true) [
      | inl here ↦ or_left (same_place place x) (list_any (same_place place) keys) (subst (λ y. same_place place y ≡ true) (sym here) (place_itself place))
      | inr later ↦ or_right (same_place place x) (list_any (same_place place) keys) (held_any keys place later)
    ]

met_by : (keys new : List PlaceName) (place : PlaceName) (t : Bool) → list_any (same_place place) keys ≡ t → new ≡ cond t keys (keys ++ place ∷ []) → Meets keys new place (not t)
met_by keys new place true t e = (any_held keys place t, e)
met_by keys new place false t e = (λ held. let h = held_any keys place held in cc, e)

pub meets : (keys new : List PlaceName) (key place : PlaceName) (b : Bool) → key ≡ place → b ≡ not (list_any (same_place key) keys) → new ≡ cond (list_any (same_place key) keys) keys (keys ++ key ∷ []) → Meets keys new place b
meets keys new key place b same added grown =
    subst (λ t. Meets keys new place t) (sym added) (subst (λ p. Meets keys new p (not (list_any (same_place key) keys))) same (met_by keys new key (list_any (same_place key) keys) refl grown))

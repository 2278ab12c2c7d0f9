-- Places of which no two are the same have no flags.
use Rattle.std.proofs.Common.{◌≡◌, ◌≢◌, ◌⊎◌, inl, inr, ℕ, ◌+◌, ◌<◌, List, [], ◌∷◌, ◌++◌, Bool, true, false, cond, Option, None, Some, length, take, drop, refl, sym, ◌∙◌, ap, subst, arith, append_assoc, get_or}
use Rattle.std.specs.Prelude.{◌↔◌, IsTrue}
use Rattle.std.specs.List.{All, Contains, position, position_from}
use Rattle.std.proofs.lemmas.Iterator.Adapters.{position_from-zero}
use Rattle.std.proofs.lemmas.List.{take_more}
use Rattle.std.proofs.lemmas.List.Elements.{All-cons, All-contains, All-nil, All-push, Contains-append_left, Contains-append_right}
use Rattle.circuit_spec.specs.declared.hops.PlaceName.{PlaceName}
use Rattle.circuit_spec.specs.Flags.{flags_after, same_place}
use Rattle.circuit_spec.proofs.Places.{same_places}
use Rattle.table_replay.specs.Tabled.{Meets}
use Rattle.table_replay.specs.Walked.{AreUnset}
use Rattle.table_replay.proofs.Places.{not_found}
use Rattle.rule_replay.proofs.Running.{cut_at}

IsUnset : Option ℕ → Type 0
IsUnset flag = flag ≡ None

flags_split : (before xs ys : List PlaceName) → flags_after before (xs ++ ys) ≡ flags_after before xs ++ flags_after (before ++ xs) ys
flags_split before [] ys = ap (λ l. flags_after l ys) (sym (then_none before))
  where
    then_none : (l : List PlaceName) → l ++ [] ≡ l
    then_none [] = refl
    then_none (z ∷ l) = ap (λ m. z ∷ m) (then_none l)
flags_split before (x ∷ xs) ys = ap (λ l. position (same_place x) before ∷ l) (flags_split (before ++ x ∷ []) xs ys ∙ ap (λ l. flags_after (before ++ x ∷ []) xs ++ flags_after l ys) (append_assoc before (x ∷ []) xs))

none_by : (n : ℕ) (x y : PlaceName) (found : Option ℕ) → (b : Bool) → same_place y x ≡ b → (x ≡ y → ⊥) → found ≡ None → cond b (Some n) found ≡ None
none_by n x y found true t apart e = absurd (apart (sym (same_places y x t)))
none_by n x y found false t apart e = e

unfound_from : (n : ℕ) (xs : List PlaceName) (y : PlaceName) → (Contains xs y → ⊥) → position_from (same_place y) n xs ≡ None
unfound_from n [] y apart = refl
unfound_from n (x ∷ xs) y apart =
    none_by n x y (position_from (same_place y) (n + 1) xs) (same_place y x) refl (λ e. apart (Contains-append_left (x ∷ []) xs y (0, omega arith, e))) (unfound_from (n + 1) xs y (λ held. apart (Contains-append_right (x ∷ []) xs y held)))

unfound : (xs : List PlaceName) (y : PlaceName) → (Contains xs y → ⊥) → position (same_place y) xs ≡ None
unfound xs y apart = position_from-zero (same_place y) xs ∙ unfound_from 0 xs y apart

pub none_apart : AreUnset (flags_after [] [])
none_apart = All-nil (λ (flag : Option ℕ). flag ≡ None)

module _ (places : List PlaceName) (n : ℕ) (d : PlaceName) (within : n < length places) (met after : List PlaceName) (so_far : met ≡ take n places) where
  -- a place that is new
  pub apart_more : (b : Bool) → Meets met after (get_or places n d) b → b ≡ true → AreUnset (flags_after [] (take n places)) → (after ≡ take (n + 1) places) × AreUnset (flags_after [] (take (n + 1) places))
  apart_more false meets e unset = absurd (cc)
  apart_more true (anew, grown) e unset =
      let here = get_or places n d in
      let list = take_more places n d within in
      let flags : flags_after [] (take n places ++ here ∷ []) ≡ flags_after [] (take n places) ++ position (same_place here) (take n places) ∷ [] = flags_split [] (take n places) (here ∷ []) in
      let none = unfound (take n places) here (λ held. anew (subst (λ l. Contains l here) (sym so_far) held)) in (
        grown ∙ ap (λ l. l ++ here ∷ []) so_far ∙ sym list,
        subst (λ l. AreUnset (flags_after [] l)) (sym list) (subst AreUnset (sym flags) (All-push (λ (flag : Option ℕ). flag ≡ None) (flags_after [] (take n places)) (position (same_place here) (take n places)) unset none)),
      )

  -- a place that was there before
  pub not_apart : (b : Bool) → Meets met after (get_or places n d) b → b ≡ false → AreUnset (flags_after [] places) → ⊥
  not_apart true meets e unset = cc
  not_apart false (held, same) e unset =
      let here = get_or places n d in
      let flag = position (same_place here) (take n places) in
      let more = flags_after (take n places ++ here ∷ []) (drop (n + 1) places) in
      let flags : flags_after [] places ≡ flags_after [] (take n places) ++ flag ∷ more = ap (flags_after []) (sym (cut_at places n d within)) ∙ flags_split [] (take n places) (here ∷ drop (n + 1) places) in
      let there = Contains-append_right (flags_after [] (take n places)) (flag ∷ more) flag (Contains-append_left (flag ∷ []) more flag (0, omega arith, refl)) in
      not_found (take n places) here (All-contains (λ (f : Option ℕ). f ≡ None) (flags_after [] (take n places) ++ flag ∷ more) flag (subst AreUnset flags unset) there) (subst (λ l. Contains l here) so_far held)

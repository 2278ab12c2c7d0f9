-- One turn: a rule is taken, or is no hop of the unit.
use Rattle.std.proofs.Common.{◌≡◌, ◌≢◌, ◌⊎◌, inl, inr, ℕ, ◌+◌, ◌<◌, List, [], ◌∷◌, ◌++◌, Bool, true, false, Option, None, Some, length, refl, sym, ◌∙◌, ap, subst, arith, get_or}
use Rattle.std.specs.Prelude.{slice_get}
use Rattle.std.specs.List.{Contains}
use Rattle.std.proofs.lemmas.List.Elements.{Contains-append_left, Contains-push}
use Rattle.std.proofs.lemmas.Option.{get_or_from_slice_get, slice_get_within}
use Rattle.nml_elements.specs.declared.elements.Element.TheVariants as element
use Rattle.circuit_spec.specs.declared.hops.Hop.{Hop}
use Rattle.circuit_spec.specs.declared.hops.PlaceName.{PlaceName}
use Rattle.circuit_spec.specs.declared.hops.Unit.{Unit as DataUnit}
use Rattle.circuit_spec.specs.Network.{Topology}
use Rattle.circuit_spec.specs.Steps.{Step}
use Rattle.circuit_spec.proofs.NextUnit.{step_height}
use Rattle.packet_replay.specs.Carried.{Carried}
use Rattle.device_rules.specs.declared.rules.Rule.{Rule}
use Rattle.table_replay.specs.declared.fault.ForwardFault.TheVariants as why
use Rattle.table_replay.specs.declared.table.Slot.{Slot}
use Rattle.table_replay.specs.declared.table.Slot.TheVariants.{One, Several}
use Rattle.table_replay.specs.Forwarding.{AreLeaving, GoesOn, IsAwayAnew, place_of}
use Rattle.table_replay.specs.Tabled.{IsReady, Meets, Moves, StopsOrFails, Takes, Tells, slot_at}

-- the place is new, where the answer of meeting it says so
is_new : (old new : List PlaceName) (place : PlaceName) (b : Bool) → Meets old new place b → b ≡ true → (¬ Contains old place) × (new ≡ old ++ place ∷ [])
is_new old new place true m e = m
is_new old new place false m e = absurd (cc)

moves_on : (T : Topology) (old new : Carried) (h : Hop) (b : Bool) → Moves T old new h b → b ≡ true → Step T old.unit h new.unit
moves_on T old new h true m e = m
moves_on T old new h false m e = absurd (cc)

moves_not : (T : Topology) (old new : Carried) (h : Hop) (b : Bool) → Moves T old new h b → b ≡ false → (v : DataUnit) → ¬ Step T old.unit h v
moves_not T old new h true m e = absurd (cc)
moves_not T old new h false m e = m.0

module _ (T : Topology) (rules : List Rule) (target : PlaceName) (old : Carried) (slots : List (PlaceName × Slot)) (met met_after : List PlaceName) (at : PlaceName) (n : ℕ) (d : Rule) (slot : Option Slot) (found : Slot) (fresh : Bool)
    (here : at ≡ place_of old.unit) (away : place_of old.unit ≢ target) (ready : IsReady T rules old slots met) (meets : Meets met met_after at fresh) (is_fresh : fresh ≡ true)
    (taken : slot ≡ slot_at slots at) (some : slot ≡ Some found) (one : found ≡ One n) where
  anew : (¬ Contains met at) × (met_after ≡ met ++ at ∷ [])
  anew = is_new met met_after at fresh meets is_fresh

  is_anew : IsAwayAnew target met old.unit
  is_anew = record { away = away; anew = subst (λ p. ¬ Contains met p) here anew.0 }

  slot_is : slot_at slots at ≡ Some (One n)
  slot_is = sym taken ∙ some ∙ ap (λ s. Some s) one

  told : Tells T rules at (Some (One n))
  told = subst (Tells T rules at) slot_is (ready.tells at anew.0)

  only : AreLeaving T (place_of old.unit) rules (get_or rules n d ∷ [])
  only = subst (λ p. AreLeaving T p rules (get_or rules n d ∷ [])) here (subst (λ r. AreLeaving T at rules (r ∷ [])) (sym (get_or_from_slice_get rules n told.0 d told.1)) told.2)

  pub number_within : n < length rules
  number_within = slice_get_within rules n told.0 told.1

  pub not_taken : (new : Carried) (b : Bool) → Moves T old new (get_or rules n d).hop b → b ≡ false → StopsOrFails T rules target met old.unit (why.Step at)
  not_taken new b moves off = inr (here, is_anew, (get_or rules n d, only, moves_not T old new (get_or rules n d).hop b moves off))

  module _ (new : Carried) (b : Bool) (moves : Moves T old new (get_or rules n d).hop b) (yes : b ≡ true) where
    step : Step T old.unit (get_or rules n d).hop new.unit
    step = moves_on T old new (get_or rules n d).hop b moves yes

    pub is_taken : (hops hops_after : List Hop) (shared : Hop) → shared ≡ (get_or rules n d).hop → hops_after ≡ hops ++ shared ∷ [] → Takes T rules target met met_after old.unit new.unit hops hops_after
    is_taken hops hops_after shared same pushed = record {
      hop = (get_or rules n d).hop;
      goes_on = record { is_anew = is_anew; rule = get_or rules n d; only = only; hop = refl; step = step };
      met_grows = anew.1 ∙ ap (λ p. met ++ p ∷ []) here;
      hops_grow = pushed ∙ ap (λ h. hops ++ h ∷ []) same;
    }

    pub still_ready : (left : List (PlaceName × Slot)) → ((other : PlaceName) → other ≢ at → slot_at left other ≡ slot_at slots other) → length left + 1 ≡ length slots → new.room ≡ old.room → IsReady T rules new left met_after
    still_ready left others fewer room = record {
      tells = λ place unmet.
          let gone : Contains met place → ⊥ = λ held. unmet (subst (λ l. Contains l place) (sym anew.1) (Contains-append_left met (at ∷ []) place held)) in
          let other : place ≡ at → ⊥ = λ same. unmet (subst (λ l. Contains l place) (sym anew.1) (subst (λ p. Contains (met ++ p ∷ []) place) same (Contains-push met place))) in
          subst (Tells T rules place) (sym (others place other)) (ready.tells place gone);
      room = let grows = step_height T old.unit (get_or rules n d).hop new.unit step in
          let before = ready.room in
          omega (arith, grows, before, fewer, room);
    }

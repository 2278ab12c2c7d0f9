-- What is answered is how forwarding ends.
use Rattle.std.proofs.Common.{◌≡◌, ◌⊎◌, inl, inr, List, [], ◌∷◌, ◌++◌, Result, Ok, Err, length, refl, sym, ◌∙◌, ap, subst, append_assoc}
use Rattle.std.specs.Prelude.{IfOk, IfErr}
use Rattle.std.proofs.lemmas.List.{append-nil}
use Rattle.circuit_spec.specs.declared.hops.Hop.{Hop}
use Rattle.circuit_spec.specs.declared.hops.PlaceName.{PlaceName}
use Rattle.circuit_spec.specs.declared.hops.Unit.{Unit as DataUnit}
use Rattle.circuit_spec.specs.Network.{Topology}
use Rattle.circuit_spec.specs.Segments.{unit_in}
use Rattle.circuit_spec.proofs.NextUnit.{one_next}
use Rattle.device_rules.specs.declared.rules.Rule.{Rule}
use Rattle.table_replay.specs.declared.fault.ForwardFault.{ForwardFault}
use Rattle.table_replay.specs.declared.fault.ForwardFault.TheVariants as why
use Rattle.table_replay.specs.Forwarding.{Answers, Ending, Forwards, ForwardsFrom, IsFault, arrived, place_of, stopped}
use Rattle.table_replay.specs.Tabled.{Arrives, Continues, StopsOrFails, Takes}
use Rattle.table_replay.specs.Walked.{AreRulesInAnyOrder, IsPlainWalk}
use Rattle.table_replay.proofs.One.{one_forwarding}
use Rattle.table_replay.proofs.Plain.{plain_forwarded}

module _ (T : Topology) (rules : List Rule) (start target : PlaceName) where
  -- before the first turn
  pub begins : (met : List PlaceName) (u : DataUnit) (taken : List Hop) → u ≡ unit_in start [] → met ≡ [] → taken ≡ [] → Continues T rules start target met u taken
  begins met u taken at unmet none hops ending f =
      subst (λ (l : List Hop). ForwardsFrom T rules start target (l ++ hops) ending) (sym none)
      (subst (λ (w : DataUnit). Forwards T rules target [] w hops ending) at (subst (λ (l : List PlaceName). Forwards T rules target l u hops ending) unmet f))

  -- behind a turn
  pub goes_on : (met met_after : List PlaceName) (u v : DataUnit) (taken taken_after : List Hop) → Continues T rules start target met u taken → Takes T rules target met met_after u v taken taken_after → Continues T rules start target met_after v taken_after
  goes_on met met_after u v taken taken_after before takes hops ending f =
      subst (λ (l : List Hop). ForwardsFrom T rules start target l ending) (sym (append_assoc taken (takes.hop ∷ []) hops) ∙ sym (ap (λ (l : List Hop). l ++ hops) takes.hops_grow))
      (before (takes.hop ∷ hops) ending (v, takes.goes_on, subst (λ (l : List PlaceName). Forwards T rules target l v hops ending) takes.met_grows f))

  pub stops : (met : List PlaceName) (u : DataUnit) (taken : List Hop) (fault : ForwardFault) → Continues T rules start target met u taken → StopsOrFails T rules target met u fault → IsFault T rules start target fault
  stops met u taken fault before (inl memory) = inl memory
  stops met u taken fault before (inr stop) = inr (taken ++ [], before [] (stopped fault) stop)

  pub arrives : (met : List PlaceName) (u : DataUnit) (taken : List Hop) (result : Result (List Hop) ForwardFault) → Continues T rules start target met u taken → place_of u ≡ target → Arrives u taken result → IfOk result (λ hops. ForwardsFrom T rules start target hops arrived)
  arrives met u taken (Ok list) before at end = subst (λ l. ForwardsFrom T rules start target l arrived) (append-nil taken ∙ sym end.1) (before [] arrived (at, end.0))
  arrives met u taken (Err fault) before at end = tt

  pub leaves : (met : List PlaceName) (u : DataUnit) (taken : List Hop) (result : Result (List Hop) ForwardFault) → Continues T rules start target met u taken → place_of u ≡ target → Arrives u taken result → IfErr result (IsFault T rules start target)
  leaves met u taken (Ok list) before at end = tt
  leaves met u taken (Err fault) before at end =
      inr (taken ++ [], subst (λ f. ForwardsFrom T rules start target (taken ++ []) (stopped f)) (sym end.0) (before [] (stopped (why.Left (length u.stack))) (at, refl, end.1)))

  one : (hops others : List Hop) (ending other : Ending) → ForwardsFrom T rules start target hops ending → ForwardsFrom T rules start target others other → (hops ≡ others) × (ending ≡ other)
  one hops others ending other x y = one_forwarding T rules target (one_next T) hops others [] (unit_in start []) ending other x y

  pub answers_exactly : (result : Result (List Hop) ForwardFault) → IfOk result (λ hops. ForwardsFrom T rules start target hops arrived) → IfErr result (IsFault T rules start target)
      → (hops : List Hop) (ending : Ending) → ForwardsFrom T rules start target hops ending → Answers result hops ending
  answers_exactly (Ok list) ok err hops ending f = let same = one list hops arrived ending ok f in (same.0, sym same.1)
  answers_exactly (Err fault) ok (inl memory) hops ending f = inl memory
  answers_exactly (Err fault) ok (inr (others, stop)) hops ending f = inr (one hops others ending (stopped fault) f stop).1

  pub answers_plain : (result : Result (List Hop) ForwardFault) → IfOk result (λ hops. ForwardsFrom T rules start target hops arrived) → IfErr result (IsFault T rules start target)
      → (hops : List Hop) → IsPlainWalk T start target hops → AreRulesInAnyOrder hops rules → Answers result hops arrived
  answers_plain result ok err hops plain any = answers_exactly result ok err hops arrived (plain_forwarded T rules target start hops plain any)

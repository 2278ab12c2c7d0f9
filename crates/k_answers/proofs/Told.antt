-- A list of the cheapest walks tells the outcome: by its first walk, or by its end where none is listed.
use Rattle.std.proofs.Common.{◌≡◌, ◌<◌, ◌≤◌, ◌^◌, ◌⊎◌, inl, inr, ℕ, zero, suc, List, [], ◌∷◌, Some, refl, sym, ◌∙◌, ap, subst, arith}
use Rattle.std.specs.Prelude.{Contains, slice_get}
use Rattle.std.proofs.lemmas.Bool.{cases_lt}
use Rattle.std.proofs.lemmas.Grind.{common_steps}
use Rattle.std.proofs.lemmas.List.Elements.{All-contains_itself, All-weaker}
use Rattle.ml_base.specs.declared.ends.KEnd.{KEnd}
use Rattle.ml_base.specs.declared.ends.KEnd.TheVariants.{Enough, NoMore, Past, Long}
use Rattle.ml_base.specs.declared.weight.Weight.{Weight}
use Rattle.ml_base.specs.declared.weight.Weight.TheVariants as weight
use Rattle.ml_base.specs.Weight.{FullWeight, IsAtMost, IsCappedAtMost, cap}
use Rattle.ml_base.proofs.Lists.{among_contains, one_of_some, place_among}
use Rattle.circuit_spec.specs.declared.hops.Hop.{Hop}
use Rattle.circuit_spec.specs.declared.hops.Outcome.{Outcome}
use Rattle.circuit_spec.specs.declared.hops.Outcome.TheVariants as outcome
use Rattle.circuit_spec.specs.declared.hops.Request.{Request}
use Rattle.circuit_spec.specs.declared.hops.TheConstants.{HOP_LIMIT}
use Rattle.circuit_spec.specs.CappedOutcome.{IsCappedOutcome}
use Rattle.circuit_spec.specs.Faults.{IsSound}
use Rattle.circuit_spec.specs.Keeping.{GivesKeepers, Keeping}
use Rattle.circuit_spec.specs.Network.{Topology}
use Rattle.circuit_spec.specs.Segments.{IsWalkOverKept}
use Rattle.circuit_spec.specs.Steps.{IsLeastCapped, IsOutcome, weight_of}
use Rattle.circuit_spec.proofs.CappedWeights.{cap_order, exact_outcome}
use Rattle.circuit_spec.proofs.KeptWalks.{kept_outcome}
use Rattle.k_answers.specs.declared.answer.KAnswer.{KAnswer}
use Rattle.k_answers.specs.declared.answer.KHops.{KHops}
use Rattle.k_answers.specs.KAnswers.{IsKAnswer, IsKFormed, IsKnownWeight}
use Rattle.k_answers.specs.KLists.{IsKList, IsListed, IsOther, outcome_found, outcome_told}

-- Weights

not_later : (a b : FullWeight) → a.cost ≡ b.cost → b.hops < a.hops → IsAtMost a b → ⊥
not_later a b same fewer (inl cheaper) = omega (arith, same, cheaper)
not_later a b same fewer (inr more) = let n : a.hops ≤ b.hops = more.1 in omega (arith, fewer, n)

not_dearer : (a b : FullWeight) → b.cost < a.cost → IsAtMost a b → ⊥
not_dearer a b dearer (inl cheaper) = omega (arith, dearer, cheaper)
not_dearer a b dearer (inr same) = let e : a.cost ≡ b.cost = same.0 in omega (arith, dearer, e)

at_most_or_not : (a b : FullWeight) → IsAtMost a b ⊎ (IsAtMost a b → ⊥)
at_most_or_not a b = by_cost (cases_lt a.cost b.cost)
  where
    by_hops : a.cost ≡ b.cost → (b.hops < a.hops) ⊎ (a.hops ≤ b.hops) → IsAtMost a b ⊎ (IsAtMost a b → ⊥)
    by_hops same (inl fewer) = inr (not_later a b same fewer)
    by_hops same (inr few) = inl (inr (same, few))

    not_less : b.cost ≤ a.cost → (b.cost < a.cost) ⊎ (a.cost ≤ b.cost) → IsAtMost a b ⊎ (IsAtMost a b → ⊥)
    not_less le (inl dearer) = inr (not_dearer a b dearer)
    not_less le (inr ge) = by_hops (omega (arith, le, ge)) (cases_lt b.hops a.hops)

    by_cost : (a.cost < b.cost) ⊎ (b.cost ≤ a.cost) → IsAtMost a b ⊎ (IsAtMost a b → ⊥)
    by_cost (inl cheaper) = inl (inl cheaper)
    by_cost (inr le) = not_less le (cases_lt b.cost a.cost)

pub few_known : (w : FullWeight) → w.cost < 2 ^ 64 → w.hops ≤ HOP_LIMIT → cap w ≡ weight.Known w.cost w.hops
few_known w cost hops = grind (arith, common_steps)

costly_past : (w : FullWeight) → 2 ^ 64 ≤ w.cost → cap w ≡ weight.Past
costly_past w cost = grind (arith, common_steps)

module _ (T : Topology) (r : Request) (k : ℕ) where
  -- The first listed walk

  module _ (w : KHops) (walks : List KHops) (end : KEnd) (list : IsKList T r k HOP_LIMIT (w ∷ walks) end) where
    abbrev Weighs : List Hop → Type 0
    Weighs hops = IsAtMost (weight_of T w.hops) (weight_of T hops)

    first_listed : Contains (w ∷ walks) w
    first_listed = (0, omega arith, refl)

    -- no listed walk weighs less
    listed_at_most : (n : ℕ) (v : KHops) → slice_get (w ∷ walks) n ≡ Some v → Weighs v.hops
    listed_at_most zero v at = subst (λ (u : KHops). Weighs u.hops) (one_of_some at) (inr (refl, omega arith))
    listed_at_most (suc n) v at = list.rising 0 (suc n) w v (omega arith) refl at

    -- and no other one
    all_at_most : (hops : List Hop) → IsWalkOverKept T r hops → Weighs hops
    all_at_most hops walk = go (at_most_or_not (weight_of T w.hops) (weight_of T hops))
      where
        unlisted : (Weighs hops → ⊥) → IsListed (w ∷ walks) hops → ⊥
        unlisted lighter (v, contained, same) =
            let at = place_among (w ∷ walks) v (among_contains (w ∷ walks) v contained) in
            lighter (subst Weighs same (listed_at_most at.0 v at.1))

        go : Weighs hops ⊎ (Weighs hops → ⊥) → Weighs hops
        go (inl h) = h
        go (inr lighter) = absurd (lighter (list.least hops (record { is_walk = walk; unlisted = unlisted lighter }) w first_listed))

    first_outcome : (o : Outcome) → outcome_found w.weight ≡ Some o → IsCappedOutcome T (IsWalkOverKept T r) o
    first_outcome o told =
        let is = list.listable w first_listed in
        let full : FullWeight = weight_of T w.hops in
        let known : cap full ≡ weight.Known full.cost full.hops = few_known full is.cost is.hops in
        let found : outcome.Found full.cost full.hops ≡ o = one_of_some (ap outcome_found (sym is.weight) ∙ told) in
        subst (IsCappedOutcome T (IsWalkOverKept T r)) found (
          record {
            hops = w.hops;
            holds = is.is_walk;
            weight = known;
            least = λ others walk. subst (λ x. IsCappedAtMost x (cap (weight_of T others))) known (cap_order full (weight_of T others) (all_at_most others walk));
          },
          is.hops,
        )

  -- No listed walk

  other : (hops : List Hop) → IsWalkOverKept T r hops → IsOther T r [] hops
  other hops walk = record { is_walk = walk; unlisted = λ listed. none listed.1 }
    where
      none : {w : KHops} → Contains [] w → ⊥
      none c = let below : c.0 < 0 = c.1 in omega (arith, below)

  past_outcome : IsKList T r k HOP_LIMIT [] Past → IsLeastCapped T (IsWalkOverKept T r) weight.Past
  past_outcome list =
      let (few, (hops, is), each) = list.is_end in
      record {
        hops = hops;
        holds = is.is_walk;
        weight = costly_past (weight_of T hops) (each hops is);
        least = λ others walk. subst (λ x. IsCappedAtMost weight.Past x) (sym (costly_past (weight_of T others) (each others (other others walk)))) tt;
      }

  long_outcome : (cost hops : ℕ) → IsKList T r k HOP_LIMIT [] (Long cost hops) → IsLeastCapped T (IsWalkOverKept T r) (weight.Known cost hops)
  long_outcome cost hops list =
      let least = list.is_end.1 in
      record {
        hops = least.hops;
        holds = least.holds.is_walk;
        weight = least.weight;
        least = λ others walk. least.least others (other others walk);
      }

  kept_told : (walks : List KHops) (end : KEnd) → IsKList T r k HOP_LIMIT walks end → (o : Outcome) → outcome_told walks end ≡ Some o → IsCappedOutcome T (IsWalkOverKept T r) o
  kept_told (w ∷ walks) end list o told = first_outcome w walks end list o told
  kept_told [] Enough list o told = absurd (cc)
  kept_told [] NoMore list o told = subst (IsCappedOutcome T (IsWalkOverKept T r)) (one_of_some told) (λ hops walk. list.is_end.1 hops (other hops walk))
  kept_told [] Past list o told = subst (IsCappedOutcome T (IsWalkOverKept T r)) (one_of_some told) (past_outcome list)
  kept_told [] (Long cost hops) list o told = subst (IsCappedOutcome T (IsWalkOverKept T r)) (one_of_some told) (long_outcome cost hops list, list.is_end.2)

  pub told : (keeping : Keeping) → IsSound T → GivesKeepers T r keeping → (walks : List KHops) (end : KEnd) → IsKList T r k HOP_LIMIT walks end
      → (o : Outcome) → outcome_told walks end ≡ Some o → IsOutcome T r o
  told keeping sound gives walks end list o is = exact_outcome T r o (kept_outcome T r keeping sound gives o (kept_told walks end list o is))

-- What is listed can be written

known_weight : (w : Weight) (cost hops : ℕ) → w ≡ weight.Known cost hops → IsKnownWeight w
known_weight w cost hops e = subst IsKnownWeight (sym e) tt

pub formed : (T : Topology) (r : Request) (k : ℕ) (a : KAnswer) → IsKAnswer T r k a → IsKFormed a
formed T r k a is = All-weaker (Contains a.walks) (λ (w : KHops). IsKnownWeight w.weight)
    (λ w c. known_weight w.weight (weight_of T w.hops).cost (weight_of T w.hops).hops (is.list.listable w c).weight)
    a.walks (All-contains_itself a.walks)

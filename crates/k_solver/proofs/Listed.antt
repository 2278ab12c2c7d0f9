-- The walks that are listed of a machine are, by their hops, the cheapest of its network.
use Rattle.std.proofs.Common.{◌≡◌, ◌<◌, ◌≤◌, ◌^◌, ℕ, List, [], ◌∷◌, Some, length, map, sym, ◌∙◌, ap, subst, arith, Contains}
use Rattle.std.specs.Prelude.{slice_get}
use Rattle.std.specs.List.{All, AllByRecursion}
use Rattle.std.proofs.lemmas.Grind.{common_steps}
use Rattle.std.proofs.lemmas.List.Elements.{All-contains_itself, All-from_recursion, All-weaker}
use Rattle.ml_base.specs.declared.ends.KEnd.{KEnd}
use Rattle.ml_base.specs.declared.ends.KEnd.TheVariants.{Enough, NoMore, Past, Long}
use Rattle.ml_base.specs.declared.numbers.Root.TheVariants as root
use Rattle.ml_base.specs.declared.numbers.StepNo.{StepNo}
use Rattle.ml_base.specs.declared.weight.Weight.TheVariants.{Known}
use Rattle.ml_base.specs.Weight.{FullWeight, IsAtMost, IsCappedAtMost, cap}
use Rattle.ml_base.proofs.Lists.{among_contains, contains_at, place_among}
use Rattle.adapt_machine.specs.declared.MachineStep.{MachineStep}
use Rattle.adapt_machine.specs.Walks.{full_weight_of}
use Rattle.circuit_spec.specs.declared.hops.Hop.{Hop}
use Rattle.circuit_spec.specs.declared.hops.Request.{Request}
use Rattle.circuit_spec.specs.declared.hops.TheConstants.{HOP_LIMIT}
use Rattle.circuit_spec.specs.Faults.{IsKnown, IsSound}
use Rattle.circuit_spec.specs.Network.{Topology}
use Rattle.circuit_spec.specs.Segments.{IsWalkOverKept}
use Rattle.circuit_spec.specs.Steps.{weight_of}
use Rattle.kept_table.specs.Table.{keeping_of}
use Rattle.machine_build.specs.Built.{BuiltValue}
use Rattle.machine_lift.specs.Lift.{AreHopsAt, IsMachineOf}
use Rattle.finder_core.proofs.Outcome.{lift, segment_walks, walk_steps}
use Rattle.potential_lift.proofs.Zipped.{zip_first, zip_second}
use Rattle.k_cheapest.specs.declared.found.KWalk.{KWalk}
use Rattle.k_cheapest.specs.KLists as machine
use Rattle.k_cheapest.specs.KLists.{numbers_of}
use Rattle.k_cheapest.proofs.Numbers.{numbers_same}
use Rattle.k_answers.specs.declared.answer.KAnswer.{KAnswer}
use Rattle.k_answers.specs.declared.answer.KHops.{KHops}
use Rattle.k_answers.specs.KAnswers.{IsKAnswer}
use Rattle.k_answers.specs.KLists.{IsEnd, IsKList, IsListable, IsListed, IsOther}
use Rattle.k_answers.proofs.Told.{few_known, told}
use Rattle.k_solver.specs.Walks.{AreWalksOf, AreWithin, IsWalkOf}
use Rattle.k_solver.proofs.Hops.{same_hops, same_steps, zip_length}

uncapped : (v w : FullWeight) → v.cost < 2 ^ 64 → IsCappedAtMost (Known v.cost v.hops) (cap w) → IsAtMost v w
uncapped v w small le = grind (arith, common_steps)

steps_below : (n : ℕ) (steps : List StepNo) → AllByRecursion (λ k. k < n) (numbers_of steps) → AllByRecursion (λ (k : StepNo). k.0 < n) steps
steps_below n [] all = tt
steps_below n (k ∷ steps) all = (all.0, steps_below n steps all.1)

module _ (T : Topology) (r : Request) (b : BuiltValue) (sound : IsSound T) (is : IsMachineOf T r b) where
  abbrev Machine-walk : List ℕ → Type 0
  Machine-walk ks = machine.IsWalk b.machine.steps b.starts b.targets ks

  abbrev Machine-listable : KWalk → Type 0
  Machine-listable v = machine.IsListable b.machine.steps b.starts b.targets HOP_LIMIT v

  -- the hops of a walk of the machine
  up : (ks : List ℕ) (hops : List Hop) → Machine-walk ks → AreHopsAt T b ks hops → IsWalkOverKept T r hops × (weight_of T hops ≡ full_weight_of b.machine.steps ks)
  up ks hops w are = segment_walks T r b sound is w.1 ks w.3 (w.0, w.2, w.4) hops are

  -- each walk over kept labels has steps
  down : (hops : List Hop) → IsWalkOverKept T r hops → (ks : List ℕ) × Machine-walk ks × AreHopsAt T b ks hops
  down hops walk =
      let s = walk_steps T r b sound is hops walk in
      (s.2.0, (s.2.1.0, s.0, s.2.1.1, s.1, s.2.1.2), s.2.2)

  listable_of : (v : KWalk) (w : KHops) → Machine-listable v → IsWalkOf T b v w → IsListable T r HOP_LIMIT w
  listable_of v w l pair =
      let lifted = up (numbers_of v.steps) w.hops l.is_walk pair.hops in
      let full : FullWeight = full_weight_of b.machine.steps (numbers_of v.steps) in
      let same : full ≡ weight_of T w.hops = sym lifted.1 in
      record {
        is_walk = lifted.0;
        weight = pair.weight ∙ l.weight ∙ few_known full l.cost l.hops ∙ ap (λ (x : FullWeight). Known x.cost x.hops) same;
        cost = subst (λ (x : FullWeight). x.cost < 2 ^ 64) same l.cost;
        hops = subst (λ (x : FullWeight). x.hops ≤ HOP_LIMIT) same l.hops;
      }

  -- the weight of the one is that of the other
  exact : (v : KWalk) (w : KHops) → Machine-listable v → IsWalkOf T b v w → v.weight ≡ Known (weight_of T w.hops).cost (weight_of T w.hops).hops
  exact v w l pair = sym pair.weight ∙ (listable_of v w l pair).weight

  pub within : (k : ℕ) (found : List KWalk) (end : KEnd) → machine.IsKList b.machine.steps b.starts b.targets k HOP_LIMIT found end → AreWithin b found
  within k found end list = All-weaker (Contains found) (λ (v : KWalk). All (λ (s : StepNo). s.0 < length b.machine.steps) v.steps) below found (All-contains_itself found)
    where
      below : (v : KWalk) → Contains found v → All (λ (s : StepNo). s.0 < length b.machine.steps) v.steps
      below v c =
          let w = (list.listable v c).is_walk in
          All-from_recursion (λ (s : StepNo). s.0 < length b.machine.steps) v.steps
          (steps_below (length b.machine.steps) v.steps ((lift T r b sound is).within root.Request (numbers_of v.steps) w.1 (w.0, w.2, w.4)))

  module _ (k : ℕ) (found : List KWalk) (walks : List KHops) (end : KEnd) (list : machine.IsKList b.machine.steps b.starts b.targets k HOP_LIMIT found end) (are : AreWalksOf T b found walks) where
    counted : length walks ≡ length found
    counted = zip_length (IsWalkOf T b) found walks are

    at_first : (i : ℕ) (w : KHops) → slice_get walks i ≡ Some w → (v : KWalk) × (slice_get found i ≡ Some v) × IsWalkOf T b v w
    at_first i w at = zip_first (IsWalkOf T b) found walks i w are at

    holds : (w : KHops) → Contains walks w → (v : KWalk) × Contains found v × IsWalkOf T b v w
    holds w c =
        let i = place_among walks w (among_contains walks w c) in
        let p = at_first i.0 w i.1 in
        (p.0, contains_at found i.0 p.0 p.1, p.2)

    listed_at : (i : ℕ) (v : KWalk) → slice_get found i ≡ Some v → Machine-listable v
    listed_at i v at = list.listable v (contains_at found i v at)

    -- Other walks

    listed_up : (ks : List ℕ) (hops : List Hop) → AreHopsAt T b ks hops → machine.IsListed found ks → IsListed walks hops
    listed_up ks hops at (v, c, same) =
        let i = place_among found v (among_contains found v c) in
        let p = zip_second (IsWalkOf T b) found walks i.0 v are i.1 in
        (p.0, contains_at walks i.0 p.0 p.1, same_hops T b ks p.0.hops hops (subst (λ l. AreHopsAt T b l p.0.hops) same p.2.hops) at)

    listed_down : (ks : List ℕ) (hops : List Hop) → AreHopsAt T b ks hops → IsListed walks hops → machine.IsListed found ks
    listed_down ks hops at (w, c, same) =
        let p = holds w c in
        (p.0, p.1, same_steps T b is.built.once (numbers_of p.0.steps) ks hops (subst (AreHopsAt T b (numbers_of p.0.steps)) same p.2.hops) at)

    abbrev Machine-other : List ℕ → Type 0
    Machine-other ks = machine.IsOther b.machine.steps b.starts b.targets found ks

    other_up : (ks : List ℕ) → Machine-other ks → (hops : List Hop) × IsOther T r walks hops × (weight_of T hops ≡ full_weight_of b.machine.steps ks)
    other_up ks o =
        let made = (lift T r b sound is).made root.Request ks o.is_walk.1 (o.is_walk.0, o.is_walk.2, o.is_walk.4) in
        let walk = up ks made.0 o.is_walk made.1 in
        (made.0, record { is_walk = walk.0; unlisted = λ listed. o.unlisted (listed_down ks made.0 made.1 listed) }, walk.1)

    other_down : (hops : List Hop) → IsOther T r walks hops → (ks : List ℕ) × Machine-other ks × (weight_of T hops ≡ full_weight_of b.machine.steps ks)
    other_down hops o =
        let s = down hops o.is_walk in
        (s.0, record { is_walk = s.1; unlisted = λ listed. o.unlisted (listed_up s.0 hops s.2 listed) }, (up s.0 hops s.1 s.2).1)

    -- The list

    once : (i j : ℕ) (w x : KHops) → i < j → slice_get walks i ≡ Some w → slice_get walks j ≡ Some x → w.hops ≡ x.hops → ⊥
    once i j w x lt atw atx same =
        let p = at_first i w atw in
        let q = at_first j x atx in
        let numbers = same_steps T b is.built.once (numbers_of p.0.steps) (numbers_of q.0.steps) x.hops (subst (AreHopsAt T b (numbers_of p.0.steps)) same p.2.hops) q.2.hops in
        list.once i j p.0 q.0 lt p.1 q.1 (numbers_same p.0.steps q.0.steps numbers)

    rising : (i j : ℕ) (w x : KHops) → i < j → slice_get walks i ≡ Some w → slice_get walks j ≡ Some x → IsAtMost (weight_of T w.hops) (weight_of T x.hops)
    rising i j w x lt atw atx =
        let p = at_first i w atw in
        let q = at_first j x atx in
        let later = subst (λ y. IsCappedAtMost p.0.weight y) (exact q.0 x (listed_at j q.0 q.1) q.2) (list.rising i j p.0 q.0 lt p.1 q.1) in
        subst (λ y. IsCappedAtMost y (Known (weight_of T x.hops).cost (weight_of T x.hops).hops)) (exact p.0 w (listed_at i p.0 p.1) p.2) later

    least : (hops : List Hop) → IsOther T r walks hops → (w : KHops) → Contains walks w → IsAtMost (weight_of T w.hops) (weight_of T hops)
    least hops o w c =
        let p = holds w c in
        let l = list.listable p.0 p.1 in
        let s = other_down hops o in
        let below = subst (λ (x : FullWeight). IsCappedAtMost p.0.weight (cap x)) (sym s.2) (list.least s.0 s.1 p.0 p.1) in
        uncapped (weight_of T w.hops) (weight_of T hops) (listable_of p.0 w l p.2).cost
        (subst (λ y. IsCappedAtMost y (cap (weight_of T hops))) (exact p.0 w l p.2) below)

    fewer : length found < k → length walks < k
    fewer few = subst (λ n. n < k) (sym counted) few

    ended : (e : KEnd) → machine.IsEnd b.machine.steps b.starts b.targets k HOP_LIMIT found e → IsEnd T r k HOP_LIMIT walks e
    ended Enough at = counted ∙ at
    ended NoMore at = (fewer at.0, λ hops o. let s = other_down hops o in at.1 s.0 s.1)
    ended Past at =
        let other = other_up at.1.0 at.1.1 in
        (fewer at.0, (other.0, other.1), λ hops o. let s = other_down hops o in subst (λ (x : FullWeight). 2 ^ 64 ≤ x.cost) (sym s.2) (at.2 s.0 s.1))
    ended (Long cost hops) at =
        let long = at.1 in
        let other = other_up long.lightest long.other in (
          fewer at.0,
          record {
            hops = other.0;
            holds = other.1;
            weight = ap cap other.2 ∙ long.weight;
            least = λ others o. let s = other_down others o in subst (λ (x : FullWeight). IsCappedAtMost (Known cost hops) (cap x)) (sym s.2) (long.least s.0 s.1);
          },
          long.over,
        )

    k_list : IsKList T r k HOP_LIMIT walks end
    k_list = record {
      few = subst (λ n. n ≤ k) (sym counted) list.few;
      listable = λ w c. let p = holds w c in listable_of p.0 w (list.listable p.0 p.1) p.2;
      once = once;
      rising = rising;
      least = least;
      is_end = ended end list.is_end;
    }

    pub answered : IsKnown T r → (request : Request) → request ≡ r → IsKAnswer T r k (record { request = request; walks = walks; end = end })
    answered known request same = record {
      request = same;
      known = known;
      list = k_list;
      outcome = told T r k (keeping_of is.table) sound is.kept.keepers walks end k_list;
    }

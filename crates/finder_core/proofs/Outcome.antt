-- A cheapest segment of the machine of a request tells its outcome.
use Rattle.std.proofs.Common.{◌≡◌, ℕ, ◌<◌, ◌≤◌, ◌^◌, ◌⊎◌, inl, inr, List, [], length, min, nat_lt, refl, sym, ◌∙◌, ap, subst, arith, Contains}
use Rattle.std.proofs.lemmas.Bool.{cases_lt, cond-true, cond-false, lt-ltb, le-ltb}
use Rattle.std.proofs.lemmas.Option.{slice_get_within}
use Rattle.std.proofs.lemmas.Grind.{common_steps}
use Rattle.ml_base.specs.Weight.{FullWeight, IsCappedAtMost, cap}
use Rattle.ml_base.specs.declared.numbers.StateNo.{StateNo}
use Rattle.ml_base.specs.declared.numbers.Root.TheVariants as root
use Rattle.ml_base.specs.declared.weight.Weight.{Weight}
use Rattle.ml_base.specs.declared.weight.Weight.TheVariants as weight
use Rattle.adapt_machine.specs.Walks.{full_weight_of}
use Rattle.segment_grammar.specs.Reached.{IsReached, IsSegmentUnder}
use Rattle.deriv_arena.specs.declared.Deriv.{Deriv}
use Rattle.deriv_arena.specs.Derivation.{kept_weight, unfolding_of}
use Rattle.knuth_search.specs.Settled.{IsBest}
use Rattle.circuit_spec.specs.declared.hops.Hop.{Hop}
use Rattle.circuit_spec.specs.declared.hops.Outcome.{Outcome}
use Rattle.circuit_spec.specs.declared.hops.Outcome.TheVariants.{Found, NoWalk, Past, Long}
use Rattle.circuit_spec.specs.declared.hops.Request.{Request}
use Rattle.circuit_spec.specs.declared.hops.TheConstants.{HOP_LIMIT}
use Rattle.circuit_spec.specs.CappedOutcome.{IsCappedOutcome}
use Rattle.circuit_spec.specs.Faults.{IsSound}
use Rattle.circuit_spec.specs.Network.{Topology}
use Rattle.circuit_spec.specs.Segments.{request, IsWalkOverKept}
use Rattle.circuit_spec.specs.Steps.{IsLeastCapped, IsOutcome, weight_of}
use Rattle.circuit_spec.proofs.CappedWeights.{cap_known, exact_outcome}
use Rattle.circuit_spec.proofs.KeptWalks.{kept_outcome, segment_walk, walk_segment}
use Rattle.kept_table.specs.Table.{keeping_of}
use Rattle.machine_build.specs.Built.{BuiltValue}
use Rattle.machine_lift.specs.Lift.{AreHopsAt, AreLifted, IsMachineOf}
use Rattle.machine_lift.proofs.Lifted.{lifted}
use Rattle.answer_spec.specs.Exact.{AreHopsOf}
use Rattle.finder_core.specs.Outcomes.{IsCheapestWalk, IsListable, outcome_of}

-- The outcome of a least capped weight

least_outcome : (T : Topology) (P : List Hop → Type 0) (w : Weight) → IsLeastCapped T P w → IsCappedOutcome T P (outcome_of w)
least_outcome T P weight.Past least = least
least_outcome T P (weight.Known cost hops) least = go (cases_lt HOP_LIMIT hops)
  where
    go : (HOP_LIMIT < hops) ⊎ (hops ≤ HOP_LIMIT) → IsCappedOutcome T P (outcome_of (weight.Known cost hops))
    go (inl l) = subst (λ o. IsCappedOutcome T P o) (sym (cond-true (nat_lt HOP_LIMIT hops) (Long cost hops) (Found cost hops) (lt-ltb HOP_LIMIT hops l))) (least, l)
    go (inr l) = subst (λ o. IsCappedOutcome T P o) (sym (cond-false (nat_lt HOP_LIMIT hops) (Long cost hops) (Found cost hops) (le-ltb HOP_LIMIT hops l))) (least, l)

module _ (T : Topology) (r : Request) (b : BuiltValue) (sound : IsSound T) (is : IsMachineOf T r b) where
  pub lift : AreLifted T r b
  lift = lifted T r is.table is.kept b is.built

  -- what holds of the walks over kept labels holds of all walks
  all_walks : (o : Outcome) → IsCappedOutcome T (IsWalkOverKept T r) o → IsOutcome T r o
  all_walks o capped = exact_outcome T r o (kept_outcome T r (keeping_of is.table) sound is.kept.keepers o capped)

  -- the hops of a segment to a target are a walk
  pub segment_walks : (state : StateNo) (ks : List ℕ) → Contains b.targets state → IsSegmentUnder b.machine.steps b.starts root.Request ks state → (hops : List Hop) → AreHopsAt T b ks hops → IsWalkOverKept T r hops × (weight_of T hops ≡ full_weight_of b.machine.steps ks)
  segment_walks state ks listed segment hops are =
      let place = lift.targets.only state listed in
      let up = lift.hops root.Request ks state segment request place.0 hops tt place.1 are in
      (segment_walk T r hops (place.0, place.2, up.0), up.1)

  -- each walk over kept labels is of such hops
  pub walk_steps : (hops : List Hop) → IsWalkOverKept T r hops → (state : StateNo) × Contains b.targets state × ((ks : List ℕ) × IsSegmentUnder b.machine.steps b.starts root.Request ks state × AreHopsAt T b ks hops)
  walk_steps hops walk =
      let to = walk_segment T r hops walk in
      let state = lift.targets.all to.0 to.1 in
      (state.0, state.2, lift.steps request hops to.0 to.2 root.Request state.0 tt state.1)

  least_walk : (d : Deriv) → IsBest b.machine.steps b.starts b.targets d → IsLeastCapped T (IsWalkOverKept T r) (kept_weight d)
  least_walk d best =
      let made = lift.made root.Request (unfolding_of d) best.target best.cheapest.segment in
      let walk = segment_walks best.target (unfolding_of d) best.listed best.cheapest.segment made.0 made.1 in
      record {
        hops = made.0;
        holds = walk.0;
        weight = ap cap walk.1 ∙ best.cheapest.weight;
        least = λ others o.
            let s = walk_steps others o in
            let same = (segment_walks s.0 s.2.0 s.1 s.2.1 others s.2.2).1 in
            subst (λ v. IsCappedAtMost (kept_weight d) v) (sym (ap cap same)) (best.least s.0 s.2.0 s.1 s.2.1);
      }

  pub cheapest_walk : (d : Deriv) → IsBest b.machine.steps b.starts b.targets d → IsCheapestWalk T r b (kept_weight d) (unfolding_of d)
  cheapest_walk d best = record {
    within = lift.within root.Request (unfolding_of d) best.target best.cheapest.segment;
    weighs = best.cheapest.weight;
    walks = λ hops are.
        let walk = segment_walks best.target (unfolding_of d) best.listed best.cheapest.segment hops are in
        ((walk.0.ends, walk.0.joins), walk.1, walk.0.kept);
    outcome = all_walks (outcome_of (kept_weight d)) (least_outcome T (IsWalkOverKept T r) (kept_weight d) (least_walk d best));
  }

  pub no_walk : ((target : StateNo) → Contains b.targets target → IsReached b.machine.steps b.starts root.Request target → ⊥) → IsOutcome T r NoWalk
  no_walk none = all_walks NoWalk (λ hops walk. let s = walk_steps hops walk in none s.0 s.1 (s.2.0, s.2.1))

  -- the numbers of the starts are those of states
  pub starts_within : (state : StateNo) → Contains b.starts state → state.0 < b.machine.states
  starts_within state c =
      let at = (lift.starts.only state c).1 in
      let below : state.0 < length b.places = slice_get_within b.places state.0 (lift.starts.only state c).0 at in
      omega (arith, below, is.built.states)

-- What is listed

-- a found outcome is of a weight within the limit
found_weight : (w : Weight) (cost hops : ℕ) → Found cost hops ≡ outcome_of w → (w ≡ weight.Known cost hops) × (hops ≤ HOP_LIMIT)
found_weight weight.Past cost hops e = absurd (cc)
found_weight (weight.Known c h) cost hops e = go (cases_lt HOP_LIMIT h)
  where
    go : (HOP_LIMIT < h) ⊎ (h ≤ HOP_LIMIT) → (weight.Known c h ≡ weight.Known cost hops) × (hops ≤ HOP_LIMIT)
    go (inl l) = let k : Found cost hops ≡ Long c h = e ∙ cond-true (nat_lt HOP_LIMIT h) (Long c h) (Found c h) (lt-ltb HOP_LIMIT h l) in absurd (cc)
    go (inr l) =
        let k : Found cost hops ≡ Found c h = e ∙ cond-false (nat_lt HOP_LIMIT h) (Long c h) (Found c h) (le-ltb HOP_LIMIT h l) in
        let costs : c ≡ cost = cc in
        let many : h ≡ hops = cc in
        (cc, subst (λ n. n ≤ HOP_LIMIT) many l)

pub found_listable : (w : Weight) (cost hops : ℕ) → Found cost hops ≡ outcome_of w → IsListable w
found_listable w cost hops e = let k = found_weight w cost hops e in subst IsListable (sym k.0) k.1

exact_weight : (w : FullWeight) (cost hops : ℕ) → cap w ≡ weight.Known cost hops → hops ≤ HOP_LIMIT → w ≡ record { cost = cost; hops = hops }
exact_weight w cost hops e within =
    let k = cap_known w cost hops e in
    let make : ℕ → ℕ → FullWeight = λ c h. record { cost = c; hops = h } in
    let few : w.hops ≡ hops = exact_hops w.hops hops k.2 within in
    ap (λ c. make c w.hops) k.1 ∙ ap (λ h. make cost h) few
  where
    exact_hops : (n h : ℕ) → min n (2 ^ 40) ≡ h → h ≤ HOP_LIMIT → n ≡ h
    exact_hops n h e below = grind (arith, common_steps)

-- the listed hops are of the outcome
pub hops_found : (T : Topology) (r : Request) (b : BuiltValue) (w : Weight) (ks : List ℕ) (cost hops : ℕ) (list : List Hop) → IsCheapestWalk T r b w ks → Found cost hops ≡ outcome_of w → AreHopsAt T b ks list → AreHopsOf T r (Found cost hops) list
hops_found T r b w ks cost hops list c e are =
    let walk = c.walks list are in
    let k = found_weight w cost hops e in
    (walk.0, walk.1 ∙ exact_weight (full_weight_of b.machine.steps ks) cost hops (c.weighs ∙ k.0) k.1, walk.2)

-- no hops are listed where none are found
pub hops_unfound : (T : Topology) (r : Request) (o : Outcome) (list : List Hop) → ((cost hops : ℕ) → o ≡ Found cost hops → ⊥) → list ≡ [] → AreHopsOf T r o list
hops_unfound T r (Found cost hops) list other empty = absurd (other cost hops refl)
hops_unfound T r NoWalk list other empty = empty
hops_unfound T r Past list other empty = empty
hops_unfound T r (Long cost hops) list other empty = empty

-- The outcome by capped weights is the outcome, over all walks and over those of kept labels.
use Rattle.std.proofs.Common.{◌≡◌, ◌<◌, ◌≤◌, ◌^◌, ◌↔◌, ℕ, refl, sym, ◌∙◌, ap, subst, min, arith}
use Rattle.std.proofs.Math.Nat.{min-le_left}
use Rattle.std.proofs.lemmas.Grind.{common_steps}
use Rattle.ml_base.specs.Weight.{FullWeight, IsAtMost, IsCappedAtMost, cap}
use Rattle.ml_base.specs.declared.weight.Weight.{Weight}
use Rattle.ml_base.specs.declared.weight.Weight.TheVariants.{Known, Past}
use Rattle.ml_base.proofs.Laws.{at_most-antisym}
use Rattle.circuit_spec.specs.declared.hops.Request.{Request}
use Rattle.circuit_spec.specs.declared.hops.TheConstants.{HOP_LIMIT}
use Rattle.circuit_spec.specs.declared.hops.Outcome.{Outcome}
use Rattle.circuit_spec.specs.declared.hops.Outcome.TheVariants as outcome
use Rattle.circuit_spec.specs.Network.{Topology}
use Rattle.circuit_spec.specs.Steps.{Walk, IsLeastCapped, IsLeastWeight, IsOutcome, weight_of}
use Rattle.circuit_spec.specs.CappedOutcome.{IsCappedOutcome}

-- Capping.

pub cap_order : (a b : FullWeight) → IsAtMost a b → IsCappedAtMost (cap a) (cap b)
cap_order a b h = grind (arith, common_steps)

pub cap_known : (w : FullWeight) (c h : ℕ) → cap w ≡ Known c h → (w.cost < 2 ^ 64) × (w.cost ≡ c) × (min w.hops (2 ^ 40) ≡ h)
cap_known w c h e = grind (arith, common_steps)

cap_past : (w : FullWeight) → cap w ≡ Past → 2 ^ 64 ≤ w.cost
cap_past w e = grind (arith, common_steps)

capped_past : (w : FullWeight) → 2 ^ 64 ≤ w.cost → cap w ≡ Past
capped_past w e = grind (arith, common_steps)

only_past : (w : Weight) → IsCappedAtMost Past w → w ≡ Past
only_past (Known c h) le = absurd le
only_past Past le = refl

-- below the cap of hops, the order of capped weights is that of the weights
uncapped : (w : FullWeight) (c h : ℕ) → c < 2 ^ 64 → IsCappedAtMost (Known c h) (cap w) → IsAtMost (record { cost = c; hops = h }) w
uncapped w c h small le = grind (arith, common_steps)

exact_hops : (n h : ℕ) → min n (2 ^ 40) ≡ h → h < 2 ^ 40 → n ≡ h
exact_hops n h e below = grind (arith, common_steps)

capped_below : (c h : ℕ) → c < 2 ^ 64 → h < 2 ^ 40 → cap (record { cost = c; hops = h }) ≡ Known c h
capped_below c h small below = grind (arith, common_steps)

over_limit : (n h : ℕ) → min n (2 ^ 40) ≡ h → 65536 < n → 65536 < h
over_limit n h e over = grind (arith, common_steps)

-- From capped weights.

abbrev full : ℕ → ℕ → FullWeight
full cost hops = record { cost = cost; hops = hops }

both : (w : FullWeight) (c h : ℕ) → w.cost ≡ c → w.hops ≡ h → w ≡ full c h
both w c h costs hops = ap (λ x. full x w.hops) costs ∙ ap (λ n. full c n) hops

-- a least capped weight below the cap of hops is the least weight
exact_least : (T : Topology) (r : Request) (c h : ℕ) → IsLeastCapped T (Walk T r) (Known c h) → h < 2 ^ 40 → IsLeastWeight T r (full c h) × (c < 2 ^ 64)
exact_least T r c h least below =
    let at = cap_known (weight_of T least.hops) c h least.weight in
    let small : c < 2 ^ 64 = omega (arith, at.0, at.1) in (
      record {
        hops = least.hops;
        walk = least.holds;
        weight = both (weight_of T least.hops) c h at.1 (exact_hops (weight_of T least.hops).hops h at.2 below);
        least = λ others walk. uncapped (weight_of T others) c h small (least.least others walk);
      },
      small,
    )

pub exact_outcome : (T : Topology) (r : Request) (o : Outcome) → IsCappedOutcome T (Walk T r) o → IsOutcome T r o
exact_outcome T r outcome.NoWalk is = is
exact_outcome T r outcome.Past is =
    ((is.hops, is.holds), λ hops walk. cap_past (weight_of T hops) (only_past (cap (weight_of T hops)) (is.least hops walk)))
exact_outcome T r (outcome.Found c h) is =
    let within : h ≤ HOP_LIMIT = is.1 in
    let least = exact_least T r c h is.0 (omega (arith, within)) in
    (least.0, least.1, is.1)
exact_outcome T r (outcome.Long c h) is = is

-- a least weight has the least capped weight
same_capped : (T : Topology) (r : Request) (v : Weight) (w : FullWeight) → IsLeastCapped T (Walk T r) v → IsLeastWeight T r w → cap w ≡ v
same_capped T r v w capped least =
    let up = subst (λ x. IsCappedAtMost v (cap x)) least.weight (capped.least least.hops least.walk) in
    let down = subst (λ x. IsCappedAtMost (cap w) x) capped.weight (cap_order w (weight_of T capped.hops) (least.least capped.hops capped.holds)) in
    at_most-antisym (cap w) v down up

-- To capped weights.

least_capped : (T : Topology) (r : Request) (w : FullWeight) (v : Weight) → IsLeastWeight T r w → cap w ≡ v → IsLeastCapped T (Walk T r) v
least_capped T r w v least same = record {
  hops = least.hops;
  holds = least.walk;
  weight = ap cap least.weight ∙ same;
  least = λ others walk. subst (λ x. IsCappedAtMost x (cap (weight_of T others))) same (cap_order w (weight_of T others) (least.least others walk));
}

past_within : (w : Weight) → w ≡ Past → IsCappedAtMost Past w
past_within w e = subst (IsCappedAtMost Past) (sym e) tt

pub capped_outcome : (T : Topology) (r : Request) (o : Outcome) → IsOutcome T r o → IsCappedOutcome T (Walk T r) o
capped_outcome T r outcome.NoWalk is = is
capped_outcome T r outcome.Past is = record {
  hops = is.0.0;
  holds = is.0.1;
  weight = capped_past (weight_of T is.0.0) (is.1 is.0.0 is.0.1);
  least = λ others walk. past_within (cap (weight_of T others)) (capped_past (weight_of T others) (is.1 others walk));
}
capped_outcome T r (outcome.Found c h) is =
    let within : h ≤ HOP_LIMIT = is.2 in
    (least_capped T r (full c h) (Known c h) is.0 (capped_below c h is.1 (omega (arith, within))), is.2)
capped_outcome T r (outcome.Long c h) is = is

-- where there is a least weight, the outcome is long exactly where its hops are over the limit, and it is stated as it is capped
pub long_outcome : (T : Topology) (r : Request) (w : FullWeight) (c h : ℕ) → IsLeastWeight T r w → IsOutcome T r (outcome.Long c h) ↔ ((HOP_LIMIT < w.hops) × (cap w ≡ Known c h))
long_outcome T r w c h least = (
  λ is.
      let same = same_capped T r (Known c h) w is.0 least in
      let at = cap_known w c h same in
      let over : HOP_LIMIT < h = is.1 in
      (omega (arith, at.2, min-le_left w.hops (2 ^ 40), over), same),
  λ both. (least_capped T r w (Known c h) least both.1, over_limit w.hops h (cap_known w c h both.1).2 both.0),
)

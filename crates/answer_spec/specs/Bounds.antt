-- What a certificate shows of all walks.
use Rattle.std.specs.Prelude.{◌≡◌, ◌<◌, ◌≤◌, ◌^◌, List}
use Rattle.ml_base.specs.declared.weight.Weight.TheVariants.{Known}
use Rattle.ml_base.specs.Weight.{IsAtMost, IsCappedAtMost, cap}
use Rattle.circuit_spec.specs.declared.hops.Hop.{Hop}
use Rattle.circuit_spec.specs.declared.hops.Request.{Request}
use Rattle.circuit_spec.specs.declared.hops.Outcome.{Outcome}
use Rattle.circuit_spec.specs.declared.hops.Outcome.TheVariants.{Found, NoWalk, Past, Long}
use Rattle.circuit_spec.specs.declared.hops.TheConstants.{HOP_LIMIT}
use Rattle.circuit_spec.specs.Network.{Topology}
use Rattle.circuit_spec.specs.Steps.{Circuit, Walk, weight_of}

-- What is found is a circuit of the stated weight, and no walk weighs less. Else there is no walk; or each costs 2 ^ 64 or more; or none
-- weighs less, as it is capped, than what is stated, which is over the hop limit, so that a walk of at most the stated cost is too.
abbrev pub BoundsWalks : Topology → Request → Outcome → List Hop → Type 0
BoundsWalks T r (Found cost hops) list =
    Circuit T r list × (weight_of T list ≡ record { cost = cost; hops = hops })
    × ((others : List Hop) → Walk T r others → IsAtMost (record { cost = cost; hops = hops }) (weight_of T others))
BoundsWalks T r NoWalk list = (others : List Hop) → ¬ Walk T r others
BoundsWalks T r Past list = (others : List Hop) → Walk T r others → 2 ^ 64 ≤ (weight_of T others).cost
BoundsWalks T r (Long cost hops) list =
    (HOP_LIMIT < hops)
    × ((others : List Hop) → Walk T r others → IsCappedAtMost (Known cost hops) (cap (weight_of T others)))
    × ((others : List Hop) → Walk T r others → (weight_of T others).cost ≤ cost → HOP_LIMIT < (weight_of T others).hops)

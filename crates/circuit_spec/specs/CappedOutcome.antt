-- The outcome told by capped weights, over any lists of hops that stand for the walks.
use Rattle.std.specs.Prelude.{◌<◌, ◌≤◌, List}
use Rattle.ml_base.specs.declared.weight.Weight.TheVariants as weight
use Rattle.circuit_spec.specs.declared.hops.Hop.{Hop}
use Rattle.circuit_spec.specs.declared.hops.Outcome.{Outcome}
use Rattle.circuit_spec.specs.declared.hops.Outcome.TheVariants.{Found, NoWalk, Past, Long}
use Rattle.circuit_spec.specs.declared.hops.TheConstants.{HOP_LIMIT}
use Rattle.circuit_spec.specs.Network.{Topology}
use Rattle.circuit_spec.specs.Steps.{IsLeastCapped}

-- the outcome by the least capped weight, where the lists of which P holds are the walks
abbrev pub IsCappedOutcome : Topology → (List Hop → Type 0) → Outcome → Type 0
IsCappedOutcome T P NoWalk = (hops : List Hop) → ¬ P hops
IsCappedOutcome T P Past = IsLeastCapped T P weight.Past
IsCappedOutcome T P (Found cost hops) = IsLeastCapped T P (weight.Known cost hops) × (hops ≤ HOP_LIMIT)
IsCappedOutcome T P (Long cost hops) = IsLeastCapped T P (weight.Known cost hops) × (HOP_LIMIT < hops)

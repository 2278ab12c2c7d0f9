-- The outcome of a request, by a cheapest segment of its machine.
use Rattle.std.specs.Prelude.{◌≡◌, ◌<◌, ◌≤◌, ◌++◌, ◌∷◌, [], ℕ, List, Option, cond, length, nat_lt}
use Rattle.std.specs.List.{AllByRecursion}
use Rattle.ml_base.specs.declared.weight.Weight.{Weight}
use Rattle.ml_base.specs.declared.weight.Weight.TheVariants as weight
use Rattle.adapt_machine.specs.Walks.{full_weight_of, weight_of as machine_weight}
use Rattle.circuit_spec.specs.declared.hops.Hop.{Hop}
use Rattle.circuit_spec.specs.declared.hops.Outcome.{Outcome}
use Rattle.circuit_spec.specs.declared.hops.Outcome.TheVariants.{Found, Past, Long}
use Rattle.circuit_spec.specs.declared.hops.Request.{Request}
use Rattle.circuit_spec.specs.declared.hops.TheConstants.{HOP_LIMIT}
use Rattle.circuit_spec.specs.Network.{Topology}
use Rattle.circuit_spec.specs.Steps.{IsOutcome, Walk, weight_of}
use Rattle.circuit_spec.specs.Kept.{AreOverKept}
use Rattle.machine_build.specs.Built.{BuiltValue, IsHopAt}
use Rattle.machine_lift.specs.Lift.{AreHopsAt}
use Rattle.answer_spec.specs.Certificate.{AreFlagged}
use Rattle.answer_spec.specs.Exact.{AreHopsOf}

abbrev pub outcome_of : Weight → Outcome
outcome_of weight.Past = Past
outcome_of (weight.Known cost hops) = cond (nat_lt HOP_LIMIT hops) (Long cost hops) (Found cost hops)

-- the weight is within the hop limit
abbrev pub IsListable : Weight → Type 0
IsListable weight.Past = ⊥
IsListable (weight.Known cost hops) = hops ≤ HOP_LIMIT

-- The hops of these steps are a walk over kept labels, of which this is the capped weight, and the outcome is that of the weight.
pub record IsCheapestWalk (T : Topology) (r : Request) (b : BuiltValue) (w : Weight) (steps : List ℕ) : Type 0 where
  pub within : AllByRecursion (λ k. k < length b.machine.steps) steps
  pub weighs : machine_weight b.machine.steps steps ≡ w
  pub walks : (hops : List Hop) → AreHopsAt T b steps hops → Walk T r hops × (weight_of T hops ≡ full_weight_of b.machine.steps steps) × AreOverKept T r hops
  pub outcome : IsOutcome T r (outcome_of w)

-- the hops have the hop of one step more
pub record AddsHop (T : Topology) (b : BuiltValue) (k : ℕ) (old new : List Hop) : Type 0 where
  pub hop : Hop
  pub is_hop : IsHopAt T b k hop
  pub added : new ≡ old ++ hop ∷ []

-- the outcome, with a walk where it is found, and the flags of its hops
pub record IsTold (T : Topology) (r : Request) (outcome : Outcome) (hops : List Hop) (flags : List (Option ℕ)) : Type 0 where
  pub is_outcome : IsOutcome T r outcome
  pub are_hops : AreHopsOf T r outcome hops
  pub are_flags : AreFlagged T r hops flags

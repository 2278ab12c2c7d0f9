-- Which answers list the cheapest walks of a request.
use Rattle.std.specs.Prelude.{◌≡◌, ℕ, Some}
use Rattle.std.specs.List.{All}
use Rattle.ml_base.specs.declared.weight.Weight.{Weight}
use Rattle.ml_base.specs.declared.weight.Weight.TheVariants.{Known, Past}
use Rattle.circuit_spec.specs.declared.hops.Outcome.{Outcome}
use Rattle.circuit_spec.specs.declared.hops.Request.{Request}
use Rattle.circuit_spec.specs.declared.hops.TheConstants.{HOP_LIMIT}
use Rattle.circuit_spec.specs.Faults.{IsKnown}
use Rattle.circuit_spec.specs.Network.{Topology}
use Rattle.circuit_spec.specs.Steps.{IsOutcome}
use Rattle.k_answers.specs.declared.answer.KAnswer.{KAnswer}
use Rattle.k_answers.specs.declared.answer.KHops.{KHops}
use Rattle.k_answers.specs.KLists.{IsKList, outcome_told}

-- The `k` cheapest walks of a known request within the hop limit, over kept labels. The outcome that they tell is that over all labels.
pub record IsKAnswer (T : Topology) (r : Request) (k : ℕ) (a : KAnswer) : Type 0 where
  pub request : a.request ≡ r
  pub known : IsKnown T r
  pub list : IsKList T r k HOP_LIMIT a.walks a.end
  pub outcome : (outcome : Outcome) → outcome_told a.walks a.end ≡ Some outcome → IsOutcome T r outcome

-- the weight has a cost and a number of hops
abbrev pub IsKnownWeight : Weight → Type 0
IsKnownWeight (Known cost hops) = Unit {0}
IsKnownWeight Past = ⊥

-- each listed weight does
abbrev pub IsKFormed : KAnswer → Type 0
IsKFormed a = All (λ (w : KHops). IsKnownWeight w.weight) a.walks

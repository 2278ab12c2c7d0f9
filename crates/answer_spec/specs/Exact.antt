-- Which answer a search gives.
use Rattle.std.specs.Prelude.{◌≡◌, List, []}
use Rattle.circuit_spec.specs.declared.hops.Hop.{Hop}
use Rattle.circuit_spec.specs.declared.hops.Request.{Request}
use Rattle.circuit_spec.specs.declared.hops.Outcome.{Outcome}
use Rattle.circuit_spec.specs.declared.hops.Outcome.TheVariants.{Found, NoWalk, Past, Long}
use Rattle.circuit_spec.specs.Network.{Topology}
use Rattle.circuit_spec.specs.Steps.{IsOutcome, Walk, weight_of}
use Rattle.circuit_spec.specs.Kept.{AreOverKept}
use Rattle.circuit_spec.specs.Faults.{IsKnown}
use Rattle.device_rules.specs.Numbering.{AreRulesOf}
use Rattle.answer_spec.specs.declared.answer.Answer.{Answer}
use Rattle.answer_spec.specs.Certificate.{AreFlagged}
use Rattle.answer_spec.specs.Potentials.{ArePotentials}

-- what is found is a walk of exactly this weight, over kept labels, and no hops are listed otherwise
abbrev pub AreHopsOf : Topology → Request → Outcome → List Hop → Type 0
AreHopsOf T r (Found cost hops) list = Walk T r list × (weight_of T list ≡ record { cost = cost; hops = hops }) × AreOverKept T r list
AreHopsOf T r NoWalk list = list ≡ []
AreHopsOf T r Past list = list ≡ []
AreHopsOf T r (Long cost hops) list = list ≡ []

-- the outcome of a known request, with a walk over kept labels where it is found, its flags and rules, and the potentials of the request
pub record IsExactAnswer (T : Topology) (a : Answer) : Type 0 where
  pub known : IsKnown T a.request
  pub outcome : IsOutcome T a.request a.outcome
  pub hops : AreHopsOf T a.request a.outcome a.hops
  pub flags : AreFlagged T a.request a.hops a.flags
  pub rules : AreRulesOf a.hops a.rules
  pub potentials : ArePotentials T a.request a.potentials

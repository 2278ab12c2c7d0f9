-- What the types of an answer's parts do not say of it.
use Rattle.std.specs.Prelude.{◌≡◌, ◌≤◌, ◌^◌, List, [], ◌∷◌, length, IsTrue, Option, Some, None}
use Rattle.ml_base.specs.declared.weight.Weight.{Weight}
use Rattle.ml_base.specs.declared.weight.Weight.TheVariants.{Known, Past}
use Rattle.circuit_spec.specs.declared.hops.Outcome.{Outcome}
use Rattle.circuit_spec.specs.declared.hops.Outcome.TheVariants as outcome
use Rattle.device_rules.specs.Rules.{Start, AreInOrder, AreLaidOut}
use Rattle.answer_spec.specs.declared.answer.Answer.{Answer}
use Rattle.answer_spec.specs.declared.answer.PotLine.{PotLine}
use Rattle.answer_spec.specs.WellFormed.{may_follow_pot, AreHops}

-- at most 2 ^ 40 hops
abbrev pub IsShort : Weight → Type 0
IsShort (Known cost hops) = hops ≤ 2 ^ 40
IsShort Past = Unit {0}

abbrev pub IsShortOutcome : Outcome → Type 0
IsShortOutcome (outcome.Found cost hops) = hops ≤ 2 ^ 40
IsShortOutcome outcome.NoWalk = Unit {0}
IsShortOutcome outcome.Past = Unit {0}
IsShortOutcome (outcome.Long cost hops) = hops ≤ 2 ^ 40

abbrev pub ArePotsInOrder : Option PotLine → List PotLine → Type 0
ArePotsInOrder last [] = Unit {0}
ArePotsInOrder last (p ∷ ps) = IsShort p.weight × IsTrue (may_follow_pot last p) × ArePotsInOrder (Some p) ps

-- hops with their flags, and laid-out rules
abbrev pub IsWalk : Answer → Type 0
IsWalk a = AreHops 1 a.hops a.flags × AreLaidOut Start a.rules

abbrev pub IsNoWalk : Answer → Type 0
IsNoWalk a = (a.hops ≡ []) × (a.flags ≡ []) × (a.rules ≡ [])

abbrev pub FitsOutcome : Outcome → Answer → Type 0
FitsOutcome (outcome.Found cost hops) a = IsWalk a
FitsOutcome outcome.NoWalk a = IsNoWalk a
FitsOutcome outcome.Past a = IsNoWalk a
FitsOutcome (outcome.Long cost hops) a = IsNoWalk a

-- a flag for each hop, rules by domain and number, and both only where the outcome is found
abbrev pub IsWalkOrdered : Outcome → Answer → Type 0
IsWalkOrdered (outcome.Found cost hops) a = (length a.hops ≡ length a.flags) × AreInOrder Start a.rules
IsWalkOrdered outcome.NoWalk a = IsNoWalk a
IsWalkOrdered outcome.Past a = IsNoWalk a
IsWalkOrdered (outcome.Long cost hops) a = IsNoWalk a

pub record IsOrdered (a : Answer) : Type 0 where
  pub outcome : IsShortOutcome a.outcome
  pub walk : IsWalkOrdered a.outcome a
  pub potentials : ArePotsInOrder None a.potentials

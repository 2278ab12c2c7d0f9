-- Pairs of the machine of a network, as the places of potentials name them.
use Rattle.std.specs.Prelude.{◌≡◌, List, Option, None, Some}
use Rattle.std.specs.List.{AllZip, Contains}
use Rattle.ml_base.specs.declared.weight.Weight.{Weight}
use Rattle.ml_base.specs.declared.weight.Weight.TheVariants as weight
use Rattle.circuit_spec.specs.declared.hops.Outcome.{Outcome}
use Rattle.circuit_spec.specs.declared.hops.Outcome.TheVariants.{Found, NoWalk, Past, Long}
use Rattle.segment_grammar.specs.declared.potentials.Pot.{Pot}
use Rattle.answer_spec.specs.declared.answer.PotLine.{PotLine}
use Rattle.answer_spec.specs.declared.answer.RootName.{RootName}
use Rattle.answer_spec.specs.declared.answer.RootName.TheVariants as root
use Rattle.answer_spec.specs.Potentials.{root_place}
use Rattle.machine_build.specs.Built.{BuiltValue, IsState}
use Rattle.machine_lift.specs.Lift.{IsRootAt}

-- the root is the request, or a place of a state
abbrev pub IsRootOfState : BuiltValue → RootName → Type 0
IsRootOfState b root.Request = Unit {0}
IsRootOfState b (root.Entry place) = Contains b.places place

-- the root and the place are those of a pair of the machine
pub record HasPair (b : BuiltValue) (line : PotLine) : Type 0 where
  pub root : IsRootOfState b line.root
  pub place : Contains b.places line.place

-- this pair, with the weight of the potential
pub record IsPairOf (b : BuiltValue) (line : PotLine) (p : Pot) : Type 0 where
  pub root : IsRootAt b p.root (root_place line.root)
  pub place : IsState b p.state line.place
  pub weight : line.weight ≡ p.weight

-- a pair for each potential, in the same order
abbrev pub ArePairsOf : BuiltValue → List PotLine → List Pot → Type 0
ArePairsOf b lines pots = AllZip (IsPairOf b) lines pots

-- the outcome is as the least weight at the targets, if there is one
abbrev pub IsOutcomeOf : Option Weight → Outcome → Type 0
IsOutcomeOf least NoWalk = least ≡ None
IsOutcomeOf least Past = least ≡ Some weight.Past
IsOutcomeOf least (Found cost hops) = least ≡ Some (weight.Known cost hops)
IsOutcomeOf least (Long cost hops) = least ≡ Some (weight.Known cost hops)

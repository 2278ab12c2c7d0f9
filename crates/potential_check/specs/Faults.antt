-- The first rule on potentials that fails, and where.
use Rattle.std.specs.Prelude.{◌≡◌, ◌+◌, List}
use Rattle.circuit_spec.specs.Network.{Topology}
use Rattle.answer_spec.specs.declared.answer.Answer.{Answer}
use Rattle.answer_spec.specs.declared.answer.PotLine.{PotLine}
use Rattle.machine_build.specs.Built.{BuiltValue}
use Rattle.pair_check.specs.declared.fault.PairFault.{PairFault}
use Rattle.pair_check.specs.declared.fault.PairFault.TheVariants as pairs
use Rattle.verdict.specs.declared.rules.Rule.TheVariants as rule
use Rattle.verdict.specs.Faults.{IsFirstFaultFrom, first_potential_line, outcome_line}
use Rattle.verdict.specs.First.{IsFirstFailing}
use Rattle.potential_check.specs.declared.fault.PotentialFault.{PotentialFault}
use Rattle.potential_check.specs.declared.fault.PotentialFault.TheVariants as fault
use Rattle.potential_check.specs.Pairs.{HasPair}

-- the rules on potentials before it pass, and it fails at the line of the potential of this place, or at the outcome
abbrev pub IsFirstOf : Topology → Answer → PotentialFault → Type 0
IsFirstOf T a (fault.Potential kind place) = IsFirstFaultFrom rule.Placed T a kind (first_potential_line a + place)
IsFirstOf T a (fault.Outcome kind) = IsFirstFaultFrom rule.Placed T a kind outcome_line
IsFirstOf T a fault.NoMemory = Unit {0}

-- the fault on potentials that one on their pairs is
abbrev pub fault_of : PairFault → PotentialFault
fault_of pairs.Starts = fault.Outcome rule.Starts
fault_of (pairs.Roots place) = fault.Potential rule.Starts place
fault_of (pairs.Extends place) = fault.Potential rule.Extends place
fault_of (pairs.Opens place) = fault.Potential rule.Opens place
fault_of (pairs.Nests place) = fault.Potential rule.Nests place
fault_of pairs.NoMemory = fault.NoMemory

-- what is told is the first potential that has no pair of the machine, unless memory ran out
abbrev pub TellsUnplaced : BuiltValue → List PotLine → PotentialFault → Type 0
TellsUnplaced b lines (fault.Potential kind place) = (kind ≡ rule.Placed) × IsFirstFailing (HasPair b) lines place
TellsUnplaced b lines (fault.Outcome kind) = ⊥
TellsUnplaced b lines fault.NoMemory = Unit {0}

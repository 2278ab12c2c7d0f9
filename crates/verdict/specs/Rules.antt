-- The rules of a document, in the order in which it is told what fails: their numbers, and what they ask of an answer.
use Rattle.std.specs.Prelude.{ℕ, ◌≤◌}
use Rattle.std.specs.List.{All}
use Rattle.circuit_spec.specs.Network.{Topology}
use Rattle.circuit_spec.specs.Faults.{IsKnown}
use Rattle.device_rules.specs.Numbering.{AreRulesOf}
use Rattle.answer_spec.specs.declared.answer.Answer.{Answer}
use Rattle.answer_spec.specs.Certificate.{AreCarried, Arrives, IsWeighed, AreFlagged, IsPlaced, BeginAtZero, IsExtended, IsOpened, IsNested, Agrees}
use Rattle.verdict.specs.declared.rules.Rule.{Rule}
use Rattle.verdict.specs.declared.rules.Rule.TheVariants as rule

-- the number of a rule, from 1
abbrev pub number : Rule → ℕ
number rule.Grammar = 1
number rule.Ends = 2
number rule.Carried = 3
number rule.Arrives = 4
number rule.Weighed = 5
number rule.Flagged = 6
number rule.Ruled = 7
number rule.Placed = 8
number rule.Starts = 9
number rule.Extends = 10
number rule.Opens = 11
number rule.Nests = 12
number rule.Agrees = 13

-- What a rule asks of an answer. Each answer that is spelled is within the grammar.
abbrev pub Passes : Topology → Answer → Rule → Type 0
Passes T a rule.Grammar = Unit {0}
Passes T a rule.Ends = IsKnown T a.request
Passes T a rule.Carried = AreCarried T a.request a.hops
Passes T a rule.Arrives = Arrives T a.request a.outcome a.hops
Passes T a rule.Weighed = IsWeighed T a.outcome a.hops
Passes T a rule.Flagged = AreFlagged T a.request a.hops a.flags
Passes T a rule.Ruled = AreRulesOf a.hops a.rules
Passes T a rule.Placed = All (IsPlaced T a.request) a.potentials
Passes T a rule.Starts = BeginAtZero T a.request a.potentials
Passes T a rule.Extends = All (IsExtended T a.request a.potentials) a.potentials
Passes T a rule.Opens = All (IsOpened T a.request a.potentials) a.potentials
Passes T a rule.Nests = All (IsNested T a.request a.potentials) a.potentials
Passes T a rule.Agrees = Agrees T a.request a.potentials a.outcome

-- the rules from the first to the last pass
abbrev pub PassWithin : Topology → Answer → Rule → Rule → Type 0
PassWithin T a first last = (rule : Rule) → number first ≤ number rule → number rule ≤ number last → Passes T a rule

-- At which line of a document a rule fails, and which rule fails first.
--     first_rule_line, first_potential_line      where the parts of a document begin
--     HasStuckHop, HasOtherFlag, HasOtherRuleLine, FailsAtPotential, FailsToStart      where its parts fail
--     Fails      the line at which a rule fails
--     IsFirstFault      the first rule that fails, and its line
use Rattle.std.specs.Prelude.{◌≡◌, ◌⊎◌, ℕ, ◌+◌, ◌<◌, ◌≤◌, List, [], ◌∷◌, ◌++◌, length, Option}
use Rattle.circuit_spec.specs.declared.hops.Hop.{Hop}
use Rattle.circuit_spec.specs.declared.hops.Unit.{Unit as DataUnit}
use Rattle.circuit_spec.specs.Network.{Topology, Port, IsClass}
use Rattle.circuit_spec.specs.Steps.{Step, Run}
use Rattle.circuit_spec.specs.Flags.{AreFlags}
use Rattle.circuit_spec.specs.Segments.{unit_in}
use Rattle.device_rules.specs.declared.rules.Rule.{Rule as DeviceRule}
use Rattle.device_rules.specs.Rules.{Start}
use Rattle.domain_config.specs.Rules.{rule_lines}
use Rattle.device_rules.specs.Numbering.{AreRulesOf}
use Rattle.answer_spec.specs.declared.answer.Answer.{Answer}
use Rattle.answer_spec.specs.declared.answer.PotLine.{PotLine}
use Rattle.answer_spec.specs.Certificate.{first_place, IsPlaced, StartsAreListed, RootIsListed, IsExtended, IsOpened, IsNested}
use Rattle.verdict.specs.declared.rules.Rule.{Rule}
use Rattle.verdict.specs.declared.rules.Rule.TheVariants as rule
use Rattle.verdict.specs.declared.verdicts.CheckFault.{CheckFault}
use Rattle.verdict.specs.declared.verdicts.CheckFault.TheVariants as fault
use Rattle.verdict.specs.First.{IsFirstFailing, IsFirstDifference}
use Rattle.verdict.specs.Rules.{number, Passes}

-- ---- lines, counted from 1

-- the request is line 2, the outcome line 3
abbrev pub request_line : ℕ
request_line = 2

abbrev pub outcome_line : ℕ
outcome_line = 3

-- the hops begin at line 4
abbrev pub first_hop_line : ℕ
first_hop_line = 4

-- the lines of domains and rules stand behind the hops
abbrev pub first_rule_line : Answer → ℕ
first_rule_line a = first_hop_line + length a.hops

-- and the potentials behind them
abbrev pub first_potential_line : Answer → ℕ
first_potential_line a = first_rule_line a + length (rule_lines Start a.rules)

-- ---- where a part fails

-- the hops before one run from the first place, with the empty stack, to a unit which that hop takes nowhere
pub record HasStuckHop (T : Topology) (a : Answer) (line : ℕ) : Type 0 where
  pub class : Port
  pub is_class : IsClass T a.request.from class
  pub before : List Hop
  pub hop : Hop
  pub after : List Hop
  pub split : a.hops ≡ before ++ hop ∷ after
  pub left : DataUnit
  pub run : Run T (unit_in (first_place class a.request a.hops) []) before left
  pub stuck : (next : DataUnit) → ¬ Step T left hop next
  pub at : line ≡ first_hop_line + length before

-- the flags first differ there from those of the hops
pub record HasOtherFlag (T : Topology) (a : Answer) (line : ℕ) : Type 0 where
  pub class : Port
  pub is_class : IsClass T a.request.from class
  pub due : List (Option ℕ)
  pub are_due : AreFlags T (first_place class a.request a.hops) a.hops due
  pub hop : ℕ
  pub first : IsFirstDifference a.flags due hop
  pub at : line ≡ first_hop_line + hop

-- the lines of domains and rules first differ there from those of the hops
pub record HasOtherRuleLine (a : Answer) (line : ℕ) : Type 0 where
  pub due : List DeviceRule
  pub are_due : AreRulesOf a.hops due
  pub place : ℕ
  pub first : IsFirstDifference (rule_lines Start a.rules) (rule_lines Start due) place
  pub at : line ≡ first_rule_line a + place

-- the first potential of which P does not hold stands there
abbrev pub FailsAtPotential : (PotLine → Type 0) → Answer → ℕ → Type 0
FailsAtPotential P a line = (place : ℕ) × IsFirstFailing P a.potentials place × (line ≡ first_potential_line a + place)

-- a start place is not listed with weight zero: at the outcome. Else a root is not: at the first potential of that root.
abbrev pub FailsToStart : Topology → Answer → ℕ → Type 0
FailsToStart T a line =
    ((line ≡ outcome_line) × (¬ StartsAreListed T a.request a.potentials))
    ⊎ (StartsAreListed T a.request a.potentials × FailsAtPotential (λ (p : PotLine). RootIsListed a.potentials p.root) a line)

-- ---- the rules

-- the rule fails at this line, and at no earlier one
abbrev pub Fails : Topology → Answer → Rule → ℕ → Type 0
Fails T a rule.Grammar line = ⊥
Fails T a rule.Ends line = (line ≡ request_line) × (¬ Passes T a rule.Ends)
Fails T a rule.Carried line = HasStuckHop T a line
Fails T a rule.Arrives line = (line ≡ outcome_line) × (¬ Passes T a rule.Arrives)
Fails T a rule.Weighed line = (line ≡ outcome_line) × (¬ Passes T a rule.Weighed)
Fails T a rule.Flagged line = HasOtherFlag T a line
Fails T a rule.Ruled line = HasOtherRuleLine a line
Fails T a rule.Placed line = FailsAtPotential (IsPlaced T a.request) a line
Fails T a rule.Starts line = FailsToStart T a line
Fails T a rule.Extends line = FailsAtPotential (IsExtended T a.request a.potentials) a line
Fails T a rule.Opens line = FailsAtPotential (IsOpened T a.request a.potentials) a line
Fails T a rule.Nests line = FailsAtPotential (IsNested T a.request a.potentials) a line
Fails T a rule.Agrees line = (line ≡ outcome_line) × (¬ Passes T a rule.Agrees)

-- the rule fails at the line, and all rules before it pass
pub record IsFirstFault (T : Topology) (a : Answer) (rule : Rule) (line : ℕ) : Type 0 where
  pub earlier : (other : Rule) → number other < number rule → Passes T a other
  pub fails : Fails T a rule line

-- the rule, which is not before the first one, fails at the line, and the rules from the first one up to it pass
pub record IsFirstFaultFrom (first : Rule) (T : Topology) (a : Answer) (rule : Rule) (line : ℕ) : Type 0 where
  pub reached : number first ≤ number rule
  pub earlier : (other : Rule) → number first ≤ number other → number other < number rule → Passes T a other
  pub fails : Fails T a rule line

-- what is told is the first fault, unless memory ran out
abbrev pub TellsFirst : Topology → Answer → CheckFault → Type 0
TellsFirst T a (fault.NotValid line rule) = IsFirstFault T a rule line
TellsFirst T a fault.NoMemory = Unit {0}

-- what is told is the first fault of the rules from the first one on, unless memory ran out
abbrev pub TellsFirstFrom : Rule → Topology → Answer → CheckFault → Type 0
TellsFirstFrom first T a (fault.NotValid line rule) = IsFirstFaultFrom first T a rule line
TellsFirstFrom first T a fault.NoMemory = Unit {0}

-- What one line of a layout says, and how a text is answered.
use Rattle.std.specs.Prelude.{◌≡◌, ℕ, List, ◌∷◌, ◌++◌, Option, Some, None, Result, Ok, Err}
use Rattle.device_rules.specs.declared.rules.Rule.{Rule}
use Rattle.domain_config.specs.declared.fault.RuleFault.{RuleFault}
use Rattle.domain_config.specs.declared.fault.RuleFault.TheVariants as fault
use Rattle.domain_config.specs.declared.steps.Before.{Before}
use Rattle.domain_config.specs.declared.steps.Said.{Said}
use Rattle.domain_config.specs.declared.steps.Said.TheVariants as seen
use Rattle.line_text.specs.declared.reading.Refused.{Refused}
use Rattle.domain_config.specs.declared.reader.RuleReader.{RuleReader}
use Rattle.line_text.specs.Cursor.{Fails}
use Rattle.line_text.specs.Lines.{IsFirstMisfit}
use Rattle.device_rules.specs.Rules.{At, Start, In}
use Rattle.domain_config.specs.Rules.{IsLayout}

abbrev pub at_by : Option (List ℕ) → ℕ → At
at_by None last = Start
at_by (Some domain) last = In domain last

-- what stands before a line
abbrev pub at_of : Before → At
at_of before = at_by before.domain before.last

abbrev pub rule_added : At → Rule → At × (List Rule → List Rule)
rule_added Start r = (Start, λ rs. r ∷ rs)
rule_added (In domain last) r = (In domain r.number, λ rs. r ∷ rs)

-- what a line leads to and what it adds
abbrev pub step_of : At → Said → At × (List Rule → List Rule)
step_of at (seen.Domain domain) = (In domain 0, λ rs. rs)
step_of at (seen.Rule r) = rule_added at r

-- what is returned is what is read, or the line that does not fit, unless memory ran out
abbrev pub AnswersAs : {A : Type 0} → Result A RuleFault → Result A ℕ → Type 0
AnswersAs (Ok a) read = read ≡ Ok a
AnswersAs (Err (fault.Line n)) read = read ≡ Err n
AnswersAs (Err fault.NoMemory) read = Unit {0}

-- ---- reading on

-- the line leads from one reader to another, and its rules stand behind those that were read
pub record Takes (old new : RuleReader) (step : Option (At × (List Rule → List Rule))) : Type 0 where
  pub add : List Rule → List Rule
  pub leads : step ≡ Some (at_of new.before, add)
  pub added : (later : List Rule) → old.rules ++ add later ≡ new.rules ++ later

-- a line was taken, or it does not fit, or memory ran out
abbrev pub TakesBy : {X : Type 0} → RuleReader → RuleReader → Result X Refused → Option (At × (List Rule → List Rule)) → Type 0
TakesBy old new (Ok x) step = Takes old new step
TakesBy old new (Err e) step = Fails e step

-- the same for the line of this number
abbrev pub TakesAt : {X : Type 0} → ℕ → RuleReader → RuleReader → Result X RuleFault → Option (At × (List Rule → List Rule)) → Type 0
TakesAt n old new (Ok x) step = Takes old new step
TakesAt n old new (Err (fault.Line m)) step = (m ≡ n) × (step ≡ None)
TakesAt n old new (Err fault.NoMemory) step = Unit {0}

-- what is read where these rules stand before
abbrev pub behind_rules : List Rule → List Rule → List Rule
behind_rules rules later = rules ++ later

-- the line is the first one that does not fit
abbrev pub NamesFirstMisfit : List ℕ → RuleFault → Type 0
NamesFirstMisfit bytes (fault.Line n) = IsFirstMisfit IsLayout bytes n
NamesFirstMisfit bytes fault.NoMemory = Unit {0}

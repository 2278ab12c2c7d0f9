-- What the check of one rule says.
use Rattle.std.specs.Prelude.{◌≡◌, ℕ, Some, slice_get, Result, Ok, Err}
use Rattle.circuit_spec.specs.Network.{Name, Topology, Port, IsClass, ports}
use Rattle.answer_spec.specs.declared.answer.Answer.{Answer}
use Rattle.verdict.specs.declared.rules.Rule.{Rule}
use Rattle.verdict.specs.declared.verdicts.CheckFault.{CheckFault}
use Rattle.verdict.specs.declared.verdicts.CheckFault.TheVariants as fault
use Rattle.verdict.specs.Rules.{Passes}
use Rattle.verdict.specs.Faults.{Fails}

-- the rule passes; or it is the one that is told, and it fails at the line; or memory ran out
abbrev pub Decides : {X : Type 0} → Topology → Answer → Rule → Result X CheckFault → Type 0
Decides T a asked (Ok x) = Passes T a asked
Decides T a asked (Err (fault.NotValid line told)) = (told ≡ asked) × Fails T a asked line
Decides T a asked (Err fault.NoMemory) = Unit {0}

-- the port of the number is the class of the port of the id
pub record IsClassNo (T : Topology) (id : Name) (number : ℕ) : Type 0 where
  pub class : Port
  pub at : slice_get (ports T) number ≡ Some class
  pub is_class : IsClass T id class

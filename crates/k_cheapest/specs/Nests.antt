-- Two steps that a nest may stand between.
use Rattle.std.specs.Prelude.{◌≡◌, List}
use Rattle.ml_base.specs.declared.numbers.StateNo.{StateNo}
use Rattle.adapt_machine.specs.declared.MachineStep.{MachineStep}
use Rattle.adapt_machine.specs.declared.MachineKind.TheVariants.{Push, Pop}
use Rattle.adapt_machine.specs.Walks.{IsStep}
use Rattle.k_cheapest.specs.declared.expand.Nest.{Nest}

-- a push, and a pop of the same frame that enters the state
pub record IsNest (steps : List MachineStep) (n : Nest) (state : StateNo) : Type 0 where
  pub push : IsStep steps Push n.pushed.from n.push.0 n.pushed n.pushed.to
  pub pop : IsStep steps Pop n.popped.from n.pop.0 n.popped state
  pub frame : n.pushed.frame ≡ n.popped.frame

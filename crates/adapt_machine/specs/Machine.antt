-- What a machine is.
use Rattle.ml_base.specs.declared.numbers.StateNo.{StateNo}
use Rattle.ml_base.specs.declared.numbers.FrameNo.{FrameNo}
use Rattle.std.specs.Prelude.{◌≢◌, ℕ, ◌<◌, List, [], ◌∷◌, ◌++◌}
use Rattle.adapt_machine.specs.declared.MachineStep.{MachineStep}
use Rattle.adapt_machine.specs.declared.MachineKind.TheVariants.{Flat, Push, Pop}

-- a machine: the numbers of its states and frames, and its steps
pub record MachineValue : Type 0 where
  pub states : ℕ
  pub frames : ℕ
  pub steps : List MachineStep

abbrev pub empty_machine : ℕ → ℕ → MachineValue
empty_machine states frames = record { states = states; frames = frames; steps = [] }

-- the machine with one more step at the end
abbrev pub with_step : MachineValue → MachineStep → MachineValue
with_step m t = record m { steps = m.steps ++ t ∷ [] }

-- the step's numbers are below the machine's
abbrev pub IsStepWithin : ℕ → ℕ → MachineStep → Type 0
IsStepWithin states frames t = record {
  from : t.from.0 < states;
  to : t.to.0 < states;
  frame : t.kind ≢ Flat → t.frame.0 < frames;
}

abbrev pub flat_step : StateNo → StateNo → ℕ → MachineStep
flat_step from to cost = record { kind = Flat; from = from; to = to; frame = record { 0 = 0 }; cost = cost }

abbrev pub push_step : StateNo → StateNo → FrameNo → ℕ → MachineStep
push_step from to frame cost = record { kind = Push; from = from; to = to; frame = frame; cost = cost }

abbrev pub pop_step : StateNo → StateNo → FrameNo → ℕ → MachineStep
pop_step from to frame cost = record { kind = Pop; from = from; to = to; frame = frame; cost = cost }

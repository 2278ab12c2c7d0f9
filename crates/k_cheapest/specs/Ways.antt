-- The steps of a machine by where they end.
use Rattle.std.specs.Prelude.{◌≡◌, ◌≢◌, ℕ, ◌<◌, length, slice_get, Some}
use Rattle.std.specs.List.{Contains}
use Rattle.ml_base.specs.declared.numbers.StepNo.{StepNo}
use Rattle.adapt_machine.specs.Machine.{MachineValue}
use Rattle.adapt_machine.specs.declared.MachineStep.{MachineStep}
use Rattle.adapt_machine.specs.declared.MachineKind.TheVariants.{Push}
use Rattle.segment_grammar.specs.Rows.{row_of}
use Rattle.segment_grammar.specs.Index.{step_no}
use Rattle.k_cheapest.specs.declared.ways.Ways.{Ways}

-- each of the first `n` steps is in its row, and no row has the number of another step
pub record AreWays (m : MachineValue) (n : ℕ) (w : Ways) : Type 0 where
  pub states : length w.into ≡ m.states
  pub frames : length w.pushes ≡ m.frames
  pub into : (k : ℕ) (t : MachineStep) → k < n → slice_get m.steps k ≡ Some t → t.kind ≢ Push → Contains (row_of w.into t.to.0) (step_no k)
  pub pushes : (k : ℕ) (t : MachineStep) → k < n → slice_get m.steps k ≡ Some t → t.kind ≡ Push → Contains (row_of w.pushes t.frame.0) (step_no k)
  pub into_within : (s : ℕ) (k : StepNo) → Contains (row_of w.into s) k → k.0 < n
  pub pushes_within : (s : ℕ) (k : StepNo) → Contains (row_of w.pushes s) k → k.0 < n

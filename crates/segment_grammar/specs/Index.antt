-- The index of a machine: its steps by kind and by where they begin or end.
use Rattle.std.specs.Prelude.{◌≡◌, ℕ, ◌<◌, List, length, slice_get, Some}
use Rattle.std.specs.List.{Contains}
use Rattle.ml_base.specs.declared.numbers.StateNo.{StateNo}
use Rattle.ml_base.specs.declared.numbers.FrameNo.{FrameNo}
use Rattle.ml_base.specs.declared.numbers.StepNo.{StepNo}
use Rattle.adapt_machine.specs.Machine.{MachineValue}
use Rattle.adapt_machine.specs.declared.MachineStep.{MachineStep}
use Rattle.adapt_machine.specs.declared.MachineKind.TheVariants.{Flat, Push, Pop}
use Rattle.segment_grammar.specs.Rows.{row_of}
use Rattle.segment_grammar.specs.FrameRows.{FrameRowsValue, frame_row}

-- rows of step numbers: of each kind by the state that the steps leave, pushes also by the state that they enter, pops also by their frame
pub record IndexValue : Type 0 where
  pub states : ℕ
  pub flats : List (List StepNo)
  pub pushes : List (List StepNo)
  pub pushes_into : List (List StepNo)
  pub pops : FrameRowsValue

abbrev pub step_no : ℕ → StepNo
step_no k = record { 0 = k }

-- each state has its rows
pub record HasRooms (i : IndexValue) : Type 0 where
  pub flats : length i.flats ≡ i.states
  pub pushes : length i.pushes ≡ i.states
  pub pushes_into : length i.pushes_into ≡ i.states

-- what the rows are asked for
abbrev pub IsFlatFrom : StateNo → MachineStep → Type 0
IsFlatFrom s t = (t.kind ≡ Flat) × (t.from ≡ s)

abbrev pub IsPushFrom : StateNo → MachineStep → Type 0
IsPushFrom s t = (t.kind ≡ Push) × (t.from ≡ s)

abbrev pub IsPushInto : StateNo → MachineStep → Type 0
IsPushInto s t = (t.kind ≡ Push) × (t.to ≡ s)

abbrev pub IsPopAt : StateNo → FrameNo → MachineStep → Type 0
IsPopAt s f t = (t.kind ≡ Pop) × (t.from ≡ s) × (t.frame ≡ f)

-- the list has exactly the numbers of those of the first `n` steps that pass the test, rising
pub record ListsSteps (steps : List MachineStep) (n : ℕ) (test : MachineStep → Type 0) (list : List StepNo) : Type 0 where
  pub all : (k : ℕ) (t : MachineStep) → k < n → slice_get steps k ≡ Some t → test t → Contains list (step_no k)
  pub only : (k : StepNo) → Contains list k → (k.0 < n) × ((t : MachineStep) × (slice_get steps k.0 ≡ Some t) × test t)
  pub rising : (i j : ℕ) (k l : StepNo) → i < j → slice_get list i ≡ Some k → slice_get list j ≡ Some l → k.0 < l.0

-- the list has exactly the numbers of the steps that pass the test, rising
abbrev pub AreSteps : MachineValue → (MachineStep → Type 0) → List StepNo → Type 0
AreSteps m test list = ListsSteps m.steps (length m.steps) test list

-- the first `n` steps begin and end at states of the machine
abbrev pub AreWithin : List MachineStep → ℕ → ℕ → Type 0
AreWithin steps n states = (k : ℕ) (t : MachineStep) → k < n → slice_get steps k ≡ Some t → (t.from.0 < states) × (t.to.0 < states)

-- the first `n` steps are filed
pub record IsFiledBelow (steps : List MachineStep) (n states : ℕ) (i : IndexValue) : Type 0 where
  pub states_same : i.states ≡ states
  pub within : AreWithin steps n states
  pub flats : (s : StateNo) → s.0 < states → ListsSteps steps n (IsFlatFrom s) (row_of i.flats s.0)
  pub pushes : (s : StateNo) → s.0 < states → ListsSteps steps n (IsPushFrom s) (row_of i.pushes s.0)
  pub pushes_into : (s : StateNo) → s.0 < states → ListsSteps steps n (IsPushInto s) (row_of i.pushes_into s.0)
  pub pops : (s : StateNo) (f : FrameNo) → ListsSteps steps n (IsPopAt s f) (frame_row i.pops s.0 f.0)

abbrev pub IsIndexOf : MachineValue → IndexValue → Type 0
IsIndexOf m i = IsFiledBelow m.steps (length m.steps) m.states i

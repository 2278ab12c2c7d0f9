-- The product of a machine with a rule of marks.
--   place_of      the number of a state or a frame and a mark
--   marked_steps  the steps of the product, each with that of the machine
--   IsProduct     the product
use Rattle.std.specs.Prelude.{◌≡◌, ℕ, ◌+◌, ◌*◌, ◌^◌, ◌<◌, List, [], ◌∷◌, ◌++◌, length, map, Option, Some, None, slice_get}
use Rattle.std.specs.List.{flat_map, range_with_len}
use Rattle.ml_base.specs.declared.numbers.StateNo.{StateNo}
use Rattle.ml_base.specs.declared.numbers.FrameNo.{FrameNo}
use Rattle.ml_base.specs.declared.numbers.StepNo.{StepNo}
use Rattle.adapt_machine.specs.Machine.{MachineValue}
use Rattle.adapt_machine.specs.declared.MachineStep.{MachineStep}
use Rattle.adapt_machine.specs.declared.MachineKind.{MachineKind}
use Rattle.adapt_machine.specs.declared.MachineKind.TheVariants.{Flat, Push, Pop}
use Rattle.marked_machine.specs.declared.marks.Marks.{Marks}
use Rattle.marked_machine.specs.declared.steps.MarkedSteps.{MarkedSteps}
use Rattle.marked_machine.specs.Marks.{next_mark, put_mark}

-- the number of a state or a frame and a mark, of `count` marks
abbrev pub place_of : ℕ → ℕ → ℕ → ℕ
place_of count base mark = base * count + mark

abbrev pub state_at : Marks → StateNo → ℕ → StateNo
state_at marks x i = record { 0 = place_of marks.count x.0 i }

abbrev pub frame_at : Marks → FrameNo → ℕ → FrameNo
frame_at marks f j = record { 0 = place_of marks.frame_count f.0 j }

abbrev pub no_frame : FrameNo
no_frame = record { 0 = 0 }

-- a step of the product, and the number of that of the machine
pub record MarkedStep : Type 0 where
  pub step : MachineStep
  pub base : StepNo

-- the step from mark `i` to mark `a`
abbrev pub lifted : Marks → MachineStep → FrameNo → ℕ → ℕ → MachineStep
lifted marks t f i a = record { kind = t.kind; from = state_at marks t.from i; to = state_at marks t.to a; frame = f; cost = t.cost }

-- step `t`, which is number `k`, at mark `i` and with the frame: none where there is no mark behind it
abbrev pub with_next : Marks → StepNo → MachineStep → ℕ → FrameNo → Option ℕ → List MarkedStep
with_next marks k t i f None = []
with_next marks k t i f (Some a) = record { step = lifted marks t f i a; base = k } ∷ []

abbrev pub with_put : Marks → StepNo → MachineStep → ℕ → Option ℕ → List MarkedStep
with_put marks k t i None = []
with_put marks k t i (Some j) = with_next marks k t i (frame_at marks t.frame j) (next_mark marks k.0 i 0)

abbrev pub pop_at : Marks → StepNo → MachineStep → ℕ → ℕ → List MarkedStep
pop_at marks k t i j = with_next marks k t i (frame_at marks t.frame j) (next_mark marks k.0 i j)

-- all that becomes of the step at mark `i`: of a pop by the mark of the frame
abbrev pub of_kind : MachineKind → Marks → StepNo → MachineStep → ℕ → List MarkedStep
of_kind Flat marks k t i = with_next marks k t i no_frame (next_mark marks k.0 i 0)
of_kind Push marks k t i = with_put marks k t i (put_mark marks i)
of_kind Pop marks k t i = flat_map (pop_at marks k t i) (range_with_len 0 marks.frame_count)

abbrev pub steps_at : Marks → StepNo → MachineStep → ℕ → List MarkedStep
steps_at marks k t i = of_kind t.kind marks k t i

-- all that becomes of it, by mark
abbrev pub steps_of : Marks → ℕ → Option MachineStep → List MarkedStep
steps_of marks k None = []
steps_of marks k (Some t) = flat_map (steps_at marks (record { 0 = k }) t) (range_with_len 0 marks.count)

-- all steps of the product, by step
abbrev pub marked_steps : Marks → List MachineStep → List MarkedStep
marked_steps marks steps = flat_map (λ k. steps_of marks k (slice_get steps k)) (range_with_len 0 (length steps))

-- the machine of a product, the base of each of its steps, and how many marks there are
pub record ProductValue : Type 0 where
  pub machine : MachineValue
  pub bases : List StepNo
  pub count : ℕ

pub record IsProduct (m : MachineValue) (marks : Marks) (p : ProductValue) : Type 0 where
  pub states : p.machine.states ≡ m.states * marks.count
  pub frames : p.machine.frames ≡ m.frames * marks.frame_count
  pub steps : p.machine.steps ≡ map (λ a. a.step) (marked_steps marks m.steps)
  pub bases : p.bases ≡ map (λ a. a.base) (marked_steps marks m.steps)
  pub count : p.count ≡ marks.count

-- the numbers of the product are below 2 ^ 64
pub record HasRoom (m : MachineValue) (marks : Marks) : Type 0 where
  pub states : m.states * marks.count < 2 ^ 64
  pub frames : m.frames * marks.frame_count < 2 ^ 64
  pub cells : marks.frame_count * marks.count < 2 ^ 64

-- the list goes on by these steps
pub record GoesOn (old : MarkedSteps) (more : List MarkedStep) (new : MarkedSteps) : Type 0 where
  pub steps : new.steps.items ≡ old.steps.items ++ map (λ a. a.step) more
  pub bases : new.bases.items ≡ old.bases.items ++ map (λ a. a.base) more

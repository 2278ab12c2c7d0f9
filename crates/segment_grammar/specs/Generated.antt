-- The reached pairs of a machine, told by one step or one nest at a time.
use Rattle.std.specs.Prelude.{ℕ, List}
use Rattle.std.specs.List.{Contains}
use Rattle.ml_base.specs.declared.numbers.StateNo.{StateNo}
use Rattle.ml_base.specs.declared.numbers.FrameNo.{FrameNo}
use Rattle.ml_base.specs.declared.numbers.Root.{Root}
use Rattle.ml_base.specs.declared.numbers.Root.TheVariants.{Request, Entry}
use Rattle.adapt_machine.specs.declared.MachineStep.{MachineStep}
use Rattle.adapt_machine.specs.Walks.{system_of}

pub data Generated (steps : List MachineStep) (starts : List StateNo) : Root → StateNo → Type 0 where
  -- the request is reached at its starts
  begins : (a : StateNo) → Contains starts a → Generated steps starts Request a
  -- a flat step extends a pair
  extends : (root : Root) (x : StateNo) → Generated steps starts root x → (k : ℕ) (y : StateNo) → (system_of steps).Keeps x k y → Generated steps starts root y
  -- a push makes the state that it enters a root, reached at itself
  opens : (root : Root) (x : StateNo) → Generated steps starts root x → (k : ℕ) (f : FrameNo) (y : StateNo) → (system_of steps).Pushes x k f y → Generated steps starts (Entry y) y
  -- a nested segment between a push and a pop of its frame extends the pair that it stands on
  nests : (root : Root) (x : StateNo) → Generated steps starts root x → (k : ℕ) (f : FrameNo) (e : StateNo) → (system_of steps).Pushes x k f e
      → (y : StateNo) → Generated steps starts (Entry e) y → (l : ℕ) (z : StateNo) → (system_of steps).Pops y l f z → Generated steps starts root z

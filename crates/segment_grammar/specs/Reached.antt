-- The segments of a machine under its roots, and the pairs that are reached from a list of starts: instances of those of any system of steps.
use Rattle.std.specs.Prelude.{◌≡◌, ℕ, List}
use Rattle.std.specs.List.{Contains}
use Rattle.ml_base.specs.declared.numbers.StateNo.{StateNo}
use Rattle.ml_base.specs.declared.numbers.Root.{Root}
use Rattle.ml_base.specs.declared.numbers.Root.TheVariants.{Request, Entry}
use Rattle.ml_base.specs.declared.weight.Weight.{Weight}
use Rattle.ml_base.specs.Weight.{IsCappedAtMost}
use Rattle.walk_grammar.specs.System as walk
use Rattle.adapt_machine.specs.declared.MachineStep.{MachineStep}
use Rattle.adapt_machine.specs.Walks.{system_of, weight_of}

abbrev pub origin_of : Root → walk.Origin StateNo
origin_of Request = walk.Request
origin_of (Entry x) = walk.Entry x

-- a run from a start with the empty stack ends with a push into `x`, under any stack
abbrev pub IsEntered : List MachineStep → List StateNo → StateNo → Type 0
IsEntered steps starts x = walk.IsEntered (system_of steps) (λ a. Contains starts a) x

-- a run between empty stacks, from a start under the request and from the entered state under an entry
abbrev pub IsSegmentUnder : List MachineStep → List StateNo → Root → List ℕ → StateNo → Type 0
IsSegmentUnder steps starts root ks y = walk.IsSegmentUnder (system_of steps) (λ a. Contains starts a) (origin_of root) ks y

abbrev pub IsReached : List MachineStep → List StateNo → Root → StateNo → Type 0
IsReached steps starts root y = (ks : List ℕ) × IsSegmentUnder steps starts root ks y

-- the least capped weight of the segments under a root to a state, of which there is one
pub record IsLeast (steps : List MachineStep) (starts : List StateNo) (root : Root) (y : StateNo) (w : Weight) : Type 0 where
  pub segment : List ℕ
  pub is_segment : IsSegmentUnder steps starts root segment y
  pub weight : weight_of steps segment ≡ w
  pub least : (ks : List ℕ) → IsSegmentUnder steps starts root ks y → IsCappedAtMost w (weight_of steps ks)

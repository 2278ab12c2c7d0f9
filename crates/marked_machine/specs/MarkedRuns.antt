-- Runs of marks, and runs of the product as runs of the machine together with them.
use Rattle.std.specs.Prelude.{◌≡◌, ℕ, ◌<◌, List, [], map, slice_get, slice_index_or, Some}
use Rattle.ml_base.specs.declared.numbers.StateNo.{StateNo}
use Rattle.ml_base.specs.declared.numbers.StepNo.{StepNo}
use Rattle.adapt_machine.specs.Machine.{MachineValue}
use Rattle.adapt_machine.specs.declared.MachineStep.{MachineStep}
use Rattle.adapt_machine.specs.declared.MachineKind.{MachineKind}
use Rattle.adapt_machine.specs.declared.MachineKind.TheVariants.{Flat, Push, Pop}
use Rattle.adapt_machine.specs.Walks.{system_of, full_weight_of}
use Rattle.walk_grammar.specs.System.{System, Run}
use Rattle.marked_machine.specs.declared.marks.Marks.{Marks}
use Rattle.marked_machine.specs.Marks.{next_mark, put_mark}
use Rattle.marked_machine.specs.Product.{ProductValue, state_at}

-- step number `k` is of the kind
abbrev pub IsOfKind : List MachineStep → ℕ → MachineKind → Type 0
IsOfKind steps k kind = (t : MachineStep) × (slice_get steps k ≡ Some t) × (t.kind ≡ kind)

-- Marks as a system of their own: its states are the marks of states, its frames are the marks of frames, and its steps are those of
-- the machine. So a list of steps is marked from one mark to another where it is a run of this system.
abbrev pub marking : Marks → List MachineStep → System ℕ ℕ ℕ
marking marks steps = record {
  Keeps = λ i k a. IsOfKind steps k Flat × (next_mark marks k i 0 ≡ Some a);
  Pushes = λ i k j a. IsOfKind steps k Push × (put_mark marks i ≡ Some j) × (next_mark marks k i 0 ≡ Some a);
  Pops = λ i k j a. IsOfKind steps k Pop × (j < marks.frame_count) × (next_mark marks k i j ≡ Some a);
  cost = λ k. 0;
}

-- the steps of the machine that steps of the product come from
abbrev pub base_of : List StepNo → ℕ → ℕ
base_of bases k = (slice_index_or bases k (record { 0 = 0 })).0

abbrev pub bases_of : ProductValue → List ℕ → List ℕ
bases_of p ks = map (base_of p.bases) ks

-- the steps run from state `x` to state `y`, and are marked from mark `i` to mark `j`, with the empty stack at all ends
abbrev pub IsMarkedRun : MachineValue → Marks → StateNo → ℕ → List ℕ → StateNo → ℕ → Type 0
IsMarkedRun m marks x i ks y j = Run (system_of m.steps) x [] ks y [] × Run (marking marks m.steps) i [] ks j []

-- A run of the product with the empty stack at both ends comes from a marked run of the machine, of the same weight.
abbrev pub AreMarked : MachineValue → Marks → ProductValue → Type 0
AreMarked m marks p = (x : StateNo) (i : ℕ) (ks : List ℕ) (y : StateNo) (j : ℕ) → i < marks.count → j < marks.count
    → Run (system_of p.machine.steps) (state_at marks x i) [] ks (state_at marks y j) []
    → IsMarkedRun m marks x i (bases_of p ks) y j × (full_weight_of p.machine.steps ks ≡ full_weight_of m.steps (bases_of p ks))

-- Each marked run of the machine is one of the product, of the same weight.
abbrev pub AreIn : MachineValue → Marks → ProductValue → Type 0
AreIn m marks p = (x : StateNo) (i : ℕ) (ks : List ℕ) (y : StateNo) (j : ℕ) → i < marks.count
    → IsMarkedRun m marks x i ks y j
    → (ps : List ℕ) × Run (system_of p.machine.steps) (state_at marks x i) [] ps (state_at marks y j) [] × (bases_of p ps ≡ ks)
    × (full_weight_of p.machine.steps ps ≡ full_weight_of m.steps ks)

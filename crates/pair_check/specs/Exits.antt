-- Where what is pushed into a state comes out again: pairs of that root with pops of the frame.
use Rattle.std.specs.Prelude.{◌≡◌, ◌↔◌, ◌⊎◌, ◌<◌, ◌≤◌, ℕ, List, Some, length, slice_get, Option}
use Rattle.std.specs.List.{Contains}
use Rattle.std.specs.Map.{lookup}
use Rattle.std.specs.Global.{Vec}
use Rattle.ml_base.specs.declared.numbers.FrameNo.{FrameNo}
use Rattle.ml_base.specs.declared.numbers.Root.{Root}
use Rattle.ml_base.specs.declared.numbers.Root.TheVariants.{Entry}
use Rattle.ml_base.specs.declared.numbers.StateNo.{StateNo}
use Rattle.ml_base.specs.declared.numbers.StepNo.{StepNo}
use Rattle.ml_base.specs.declared.weight.Weight.{Weight}
use Rattle.ml_base.specs.Weight.{capped_total}
use Rattle.adapt_machine.specs.declared.MachineStep.{MachineStep}
use Rattle.adapt_machine.specs.declared.MachineKind.TheVariants.{Pop}
use Rattle.segment_grammar.specs.declared.potentials.Pot.{Pot}
use Rattle.segment_grammar.specs.FrameRows.{is_pair}
use Rattle.segment_grammar.specs.Index.{IsPopAt, step_no}
use Rattle.segment_grammar.specs.Pots.{IsRootBelow}
use Rattle.segment_grammar.specs.Rows.{row_of}
use Rattle.pair_check.specs.declared.exits.Exit.{Exit}
use Rattle.pair_check.specs.Rules.{IsListedWithin, IsListedRoot, IsNestedBy, step_weight}

-- ---- the pairs of one root

-- the place of the root in the order is between `low` and `high`
pub record IsRootBetween (pots : List Pot) (root : Root) (low high : ℕ) : Type 0 where
  pub ordered : low ≤ high
  pub within : high ≤ length pots
  pub below : (i : ℕ) (p : Pot) → i < low → slice_get pots i ≡ Some p → IsRootBelow p.root root
  pub above : (i : ℕ) (p : Pot) → high ≤ i → slice_get pots i ≡ Some p → ¬ IsRootBelow p.root root

-- ---- what steps lead to

-- the end of the step is listed under the root with at most the weight and that of the step
abbrev pub LeadsOn : List MachineStep → List Pot → Root → Weight → StepNo → Type 0
LeadsOn steps pots root weight step = (t : MachineStep) → slice_get steps step.0 ≡ Some t → IsListedWithin pots root t.to (capped_total weight (step_weight t))

-- the step enters a listed root
abbrev pub EntersRoot : List MachineStep → List Pot → StepNo → Type 0
EntersRoot steps pots step = (t : MachineStep) → slice_get steps step.0 ≡ Some t → IsListedRoot pots t.to

-- the push and each exit of what it enters lead on
abbrev pub NestsBy : List MachineStep → List Pot → Pot → StepNo → Type 0
NestsBy steps pots p step = (t : MachineStep) → slice_get steps step.0 ≡ Some t → IsNestedBy steps pots p t

-- the pop of the exit leads on from the weight and the inner one
abbrev pub LeadsOut : List MachineStep → List Pot → Root → Weight → Exit → Type 0
LeadsOut steps pots root weight exit = LeadsOn steps pots root (capped_total weight exit.inner) exit.pop

-- ---- exits

-- the pop takes the frame off at the state of the pair
pub record IsExitOf (steps : List MachineStep) (p : Pot) (frame : FrameNo) (exit : Exit) : Type 0 where
  pub inner : exit.inner ≡ p.weight
  pub pop : MachineStep
  pub at : slice_get steps exit.pop.0 ≡ Some pop
  pub pops : IsPopAt p.state frame pop

-- the exits of the pair are added, and nothing else
abbrev pub AddsExits : List MachineStep → Pot → FrameNo → List Exit → List Exit → Type 0
AddsExits steps p frame old new = (exit : Exit) → Contains new exit ↔ (Contains old exit ⊎ IsExitOf steps p frame exit)

-- the exit by a pop
abbrev pub exit_of : Weight → StepNo → Exit
exit_of inner pop = record { inner = inner; pop = pop }

-- exactly the exits of these pairs
abbrev pub AreExitsOf : List MachineStep → List Pot → FrameNo → List Exit → Type 0
AreExitsOf steps pots frame exits = (exit : Exit) → Contains exits exit ↔ ((p : Pot) × Contains pots p × IsExitOf steps p frame exit)

-- an exit of what is entered at the state with the frame
abbrev pub IsExitFrom : List MachineStep → List Pot → StateNo → FrameNo → Exit → Type 0
IsExitFrom steps pots entered frame exit = (p : Pot) × Contains pots p × (p.root ≡ Entry entered) × IsExitOf steps p frame exit

-- exactly those exits
abbrev pub AreExitsFrom : List MachineStep → List Pot → StateNo → FrameNo → List Exit → Type 0
AreExitsFrom steps pots entered frame exits = (exit : Exit) → Contains exits exit ↔ IsExitFrom steps pots entered frame exit

-- ---- exits by the pops of a frame

-- each pop among the first `n` steps is in the row of its frame
abbrev pub ArePopsIn : List MachineStep → ℕ → List (List StepNo) → Type 0
ArePopsIn steps n rows = (k : ℕ) (u : MachineStep) → k < n → slice_get steps k ≡ Some u → u.kind ≡ Pop → Contains (row_of rows u.frame.0) (step_no k)

-- the exit by the pop is added, if there is one, and nothing else
pub record AddsExitBy (steps : List MachineStep) (pots : List Pot) (entered : StateNo) (frame : FrameNo) (pop : StepNo) (old new : List Exit) : Type 0 where
  pub kept : (exit : Exit) → Contains old exit → Contains new exit
  pub only : (exit : Exit) → Contains new exit → Contains old exit ⊎ IsExitFrom steps pots entered frame exit
  pub all : (exit : Exit) → exit.pop ≡ pop → IsExitFrom steps pots entered frame exit → Contains new exit

-- exactly the exits by these pops
pub record AreExitsBy (steps : List MachineStep) (pots : List Pot) (entered : StateNo) (frame : FrameNo) (pops : List StepNo) (exits : List Exit) : Type 0 where
  pub only : (exit : Exit) → Contains exits exit → IsExitFrom steps pots entered frame exit
  pub all : (exit : Exit) → Contains pops exit.pop → IsExitFrom steps pots entered frame exit → Contains exits exit

-- ---- what is found

-- the exits that are found for an entered state and a frame, by their numbers
abbrev pub exits_at : List ((ℕ × ℕ) × Vec Exit) → ℕ → ℕ → Option (Vec Exit)
exits_at found entered frame = lookup (λ (p : ℕ × ℕ). is_pair entered frame p.0 p.1) found

-- exits are found for the entered state and the frame
abbrev pub IsFoundAt : List ((ℕ × ℕ) × Vec Exit) → ℕ → ℕ → Type 0
IsFoundAt found entered frame = (exits : Vec Exit) × (exits_at found entered frame ≡ Some exits)

-- what is found is right
abbrev pub AreFound : List MachineStep → List Pot → List ((ℕ × ℕ) × Vec Exit) → Type 0
AreFound steps pots found = (entered : StateNo) (frame : FrameNo) (exits : Vec Exit) → exits_at found entered.0 frame.0 ≡ Some exits → AreExitsFrom steps pots entered frame exits.items

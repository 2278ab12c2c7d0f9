-- The table of settled pairs and the queue of candidates.
use Rattle.std.specs.Prelude.{◌≡◌, ℕ, ◌<◌, ◌⊎◌, Bool, true, List, length, map, slice_get, Some}
use Rattle.std.specs.List.{Contains, All}
use Rattle.ml_base.specs.declared.numbers.StateNo.{StateNo}
use Rattle.ml_base.specs.declared.numbers.Root.TheVariants.{Entry}
use Rattle.adapt_machine.specs.Machine.{MachineValue}
use Rattle.adapt_machine.specs.declared.MachineStep.{MachineStep}
use Rattle.adapt_machine.specs.declared.MachineKind.{MachineKind}
use Rattle.adapt_machine.specs.declared.MachineKind.TheVariants.{Push, Pop}
use Rattle.segment_grammar.specs.declared.potentials.Pot.{Pot}
use Rattle.segment_grammar.specs.Pots.{pot}
use Rattle.segment_grammar.specs.Rows.{row_of}
use Rattle.segment_grammar.specs.Index.{IndexValue, IsIndexOf}
use Rattle.knuth_search.specs.declared.derived.Derived.{Derived}
use Rattle.knuth_search.specs.Derived.{Task, IsDerived}
use Rattle.knuth_search.specs.Offered.{OfferedValue}

-- pairs with their weights, for a machine and its starts
pub record Listed : Type 0 where
  pub task : Task
  pub pots : List Pot

-- the candidates that wait, and what was offered
pub record Queued : Type 0 where
  pub task : Task
  pub waiting : List Pot
  pub offered : OfferedValue

abbrev pub pot_of : Derived → Pot
pot_of d = pot d.root d.state d.weight

abbrev pub IsKept : Task → Derived → Type 0
IsKept task d = IsDerived task (pot_of d) d.deriv.now

-- a step of the kind leaves the state
pub record IsLeftBy (steps : List MachineStep) (kind : MachineKind) (x : StateNo) : Type 0 where
  pub number : ℕ
  pub step : MachineStep
  pub found : slice_get steps number ≡ Some step
  pub is_kind : step.kind ≡ kind
  pub leaves : step.from ≡ x

-- the states that steps of the kind leave are marked; others may be
pub record AreMarks (m : MachineValue) (kind : MachineKind) (marks : List Bool) : Type 0 where
  pub rooms : length marks ≡ m.states
  pub all : (x : StateNo) → IsLeftBy m.steps kind x → slice_get marks x.0 ≡ Some true

-- an item of the row has this pair and weight
pub record HasPot (row : List Derived) (p : Pot) : Type 0 where
  pub item : Derived
  pub listed : Contains row item
  pub is : pot_of item ≡ p

-- kept pairs that pass the test, and among them each of the pots that passes it and that a step of the kind leaves
pub record ListsPairs (task : Task) (pots : List Pot) (kind : MachineKind) (test : Pot → Type 0) (row : List Derived) : Type 0 where
  pub all : (p : Pot) → Contains pots p → test p → IsLeftBy task.machine.steps kind p.state → HasPot row p
  pub kept : (d : Derived) → Contains row d → IsKept task d
  pub pass : (d : Derived) → Contains row d → test (pot_of d)

-- under the entered state, and at the state
abbrev pub IsUnder : StateNo → Pot → Type 0
IsUnder x p = p.root ≡ Entry x

abbrev pub IsAt : StateNo → Pot → Type 0
IsAt x p = p.state ≡ x

-- a row for each state lists the pairs that belong there and that steps of the kind leave
pub record AreFiled (task : Task) (pots : List Pot) (kind : MachineKind) (belongs : StateNo → Pot → Type 0) (rows : List (List Derived)) : Type 0 where
  pub rooms : length rows ≡ task.machine.states
  pub lists : (x : StateNo) → x.0 < task.machine.states → ListsPairs task pots kind (belongs x) (row_of rows x.0)

-- the items of a table for this task, filed by root and by state
pub record AreStored (task : Task) (index : IndexValue) (items : List Derived) (by_root by_state : List (List Derived)) (pops : List Bool) : Type 0 where
  pub under : AreFiled task (map pot_of items) Pop IsUnder by_root
  pub at : AreFiled task (map pot_of items) Push IsAt by_state
  pub kept : All (IsKept task) items
  pub popping : AreMarks task.machine Pop pops
  pub indexed : IsIndexOf task.machine index

-- the rows have what they had, and beside it the item at most, where it belongs
pub record Files (belongs : StateNo → Pot → Type 0) (item : Derived) (old new : List (List Derived)) : Type 0 where
  pub rooms : length new ≡ length old
  pub kept : (x : StateNo) (d : Derived) → Contains (row_of old x.0) d → Contains (row_of new x.0) d
  pub only : (x : StateNo) (d : Derived) → Contains (row_of new x.0) d → Contains (row_of old x.0) d ⊎ ((item ≡ d) × belongs x (pot_of d))

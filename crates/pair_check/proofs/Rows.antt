-- Steps of a row of an index are those of the machine that pass its test.
use Rattle.std.proofs.Common.{◌≡◌, ◌<◌, List, Some, length, subst, Contains}
use Rattle.std.specs.Prelude.{Bool, IsTrue, ◌↔◌, slice_get}
use Rattle.std.specs.List.{All}
use Rattle.std.proofs.lemmas.List.Elements.{All-contains, All-contains_itself, All-weaker}
use Rattle.ml_base.specs.declared.numbers.StepNo.{StepNo}
use Rattle.adapt_machine.specs.declared.MachineStep.{MachineStep}
use Rattle.segment_grammar.specs.Index.{ListsSteps, step_no}
use Rattle.segment_grammar.proofs.Places.{at_contains, contains_at, same_at}

-- P holds of the step at the number
abbrev pub HoldsOf : List MachineStep → (MachineStep → Type 0) → StepNo → Type 0
HoldsOf steps P k = (t : MachineStep) → slice_get steps k.0 ≡ Some t → P t

-- P holds of each step that passes the test
abbrev pub HoldsOfEach : List MachineStep → (MachineStep → Type 0) → (MachineStep → Type 0) → Type 0
HoldsOfEach steps test P = (t : MachineStep) → Contains steps t → test t → P t

module _ (steps : List MachineStep) (test : MachineStep → Type 0) (row : List StepNo) (lists : ListsSteps steps (length steps) test row) (P : MachineStep → Type 0) where
  of_each : All (HoldsOf steps P) row → HoldsOfEach steps test P
  of_each all t c passes =
      let at = at_contains steps t c in
      All-contains (HoldsOf steps P) row (step_no at.0) all (lists.all at.0 t at.1 at.2 passes) t at.2

  of_row : HoldsOfEach steps test P → All (HoldsOf steps P) row
  of_row each = All-weaker (Contains row) (HoldsOf steps P) at_number row (All-contains_itself row)
    where
      at_number : (k : StepNo) → Contains row k → HoldsOf steps P k
      at_number k c t at =
          let o = lists.only k c in
          let same : o.1.0 ≡ t = same_at steps k.0 o.1.0 t o.1.1 at in
          each t (contains_at steps k.0 t at) (subst test same o.1.2)

  -- a test of a row is one of the steps
  pub row_tested : (b : Bool) → IsTrue b ↔ All (HoldsOf steps P) row → IsTrue b ↔ HoldsOfEach steps test P
  row_tested b e = (λ t. of_each (e.0 t), λ each. e.1 (of_row each))

pub row_below : (steps : List MachineStep) (test : MachineStep → Type 0) (row : List StepNo) → ListsSteps steps (length steps) test row
    → All (λ (k : StepNo). k.0 < length steps) row
row_below steps test row lists = All-weaker (Contains row) (λ (k : StepNo). k.0 < length steps) (λ k c. (lists.only k c).0) row (All-contains_itself row)

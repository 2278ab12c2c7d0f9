-- Rows of step numbers by state and frame.
use Rattle.std.specs.Prelude.{◌≡◌, ℕ, ◌<◌, Bool, ◌&&◌, nat_eq, List, [], slice_get, Option, Some, None}
use Rattle.std.specs.Map.{lookup}
use Rattle.ml_base.specs.declared.numbers.StepNo.{StepNo}
use Rattle.adapt_machine.specs.declared.MachineStep.{MachineStep}
use Rattle.adapt_machine.specs.declared.MachineKind.TheVariants.{Pop}
use Rattle.segment_grammar.specs.Rows.{row_of}

-- pairs with the numbers of their rows, and the rows
pub record FrameRowsValue : Type 0 where
  pub numbers : List ((ℕ × ℕ) × ℕ)
  pub rows : List (List StepNo)

-- the two pairs are the same
abbrev pub is_pair : ℕ → ℕ → ℕ → ℕ → Bool
is_pair a b c d = nat_eq a c && nat_eq b d

-- the number of a pair
abbrev pub numbered : List ((ℕ × ℕ) × ℕ) → ℕ → ℕ → Option ℕ
numbered numbers a b = lookup (λ (p : ℕ × ℕ). is_pair a b p.0 p.1) numbers

-- the row of a number, empty without one
abbrev pub row_found : List (List StepNo) → Option ℕ → List StepNo
row_found rows None = []
row_found rows (Some i) = row_of rows i

-- the row of a pair
abbrev pub frame_row : FrameRowsValue → ℕ → ℕ → List StepNo
frame_row r a b = row_found r.rows (numbered r.numbers a b)

-- each number is that of a row, and each row of one pair
pub record IsNumbering (numbers : List ((ℕ × ℕ) × ℕ)) (count : ℕ) : Type 0 where
  pub below : (a b i : ℕ) → numbered numbers a b ≡ Some i → i < count
  pub once : (a b c d i : ℕ) → numbered numbers a b ≡ Some i → numbered numbers c d ≡ Some i → (a ≡ c) × (b ≡ d)

-- the pairs of those of the first `n` steps that are pops have numbers
pub record ArePopsNumbered (steps : List MachineStep) (n : ℕ) (numbers : List ((ℕ × ℕ) × ℕ)) (count : ℕ) : Type 0 where
  pub numbering : IsNumbering numbers count
  pub all : (k : ℕ) (t : MachineStep) → k < n → slice_get steps k ≡ Some t → t.kind ≡ Pop → (i : ℕ) × (numbered numbers t.from.0 t.frame.0 ≡ Some i)

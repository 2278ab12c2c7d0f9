-- What is left of a line or a text, and what a reader gives.
use Rattle.std.specs.Prelude.{◌≡◌, ℕ, List, [], ◌∷◌, Option, Some, None, Result, Ok, Err, nat_eq, option_copied}
use Rattle.std.specs.Borrow.{Bor}
use Rattle.std.specs.List.{slice_split}
use Rattle.line_text.specs.declared.reading.Refused.{Refused}
use Rattle.line_text.specs.declared.reading.Refused.TheVariants as refused

-- the parts of what is left, where something is
abbrev pub parts_of : ℕ → Option (List ℕ) → List (List ℕ)
parts_of mark None = []
parts_of mark (Some rest) = slice_split (λ b. nat_eq b mark) rest

abbrev pub Fails : {Y : Type 0} → Refused → Option Y → Type 0
Fails refused.NoMemory read = Unit {0}
Fails refused.Misfit read = read ≡ None

-- what a function returned, seen by view, is what is read, unless memory ran out
abbrev pub Gives : {X Y : Type 0} → (X → Y) → Result X Refused → Option Y → Type 0
Gives view (Ok x) read = read ≡ Some (view x)
Gives view (Err e) read = Fails e read

-- a word and those that are left
abbrev pub word_then : Option (Bor (List ℕ) × Option (Bor (List ℕ))) → List (List ℕ)
word_then None = []
word_then (Some next) = next.0.now ∷ parts_of 32 (option_copied next.1)

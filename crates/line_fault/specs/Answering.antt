-- What a reader of a text of lines answers. It goes from state to state by lines, and the last state has what was read.
use Rattle.std.specs.Prelude.{◌≡◌, ℕ, List, Option, Result, Ok, Err, option_map}
use Rattle.line_fault.specs.declared.fault.LineFault.{LineFault}
use Rattle.line_fault.specs.declared.fault.LineFault.TheVariants as fault
use Rattle.line_text.specs.declared.reading.Refused.{Refused}
use Rattle.line_text.specs.declared.reading.Refused.TheVariants as refused
use Rattle.line_text.specs.Lines.{Line, pieces, read_from, IsFirstMisfit}

-- a line leads to a state, and adds nothing beside it
abbrev pub led : {S A : Type 0} → (S → Line → Option S) → S → Line → Option (S × (A → A))
led step s line = option_map (λ t. (t, λ a. a)) (step s line)

-- what the pieces say from a state on, or the number of the first that does not fit
abbrev pub led_from : {S A : Type 0} → (S → Line → Option S) → (S → Option A) → S → ℕ → List Line → Result A ℕ
led_from step end s n lines = read_from (led step) end s n lines

-- what a text says, or the number of the first line that does not fit
abbrev pub said_by : {S A : Type 0} → (S → Line → Option S) → (S → Option A) → S → List ℕ → Result A ℕ
said_by step end start bytes = led_from step end start 1 (pieces bytes)

-- what a line is read as, told with its number
abbrev pub told_at : {T : Type 0} → ℕ → Result T Refused → Result T LineFault
told_at n (Ok value) = Ok value
told_at n (Err refused.Misfit) = Err (fault.Line n)
told_at n (Err refused.NoMemory) = Err fault.NoMemory

-- what is returned is what is read, or the line that does not fit, unless memory ran out
abbrev pub AnswersAs : {A : Type 0} → Result A LineFault → Result A ℕ → Type 0
AnswersAs (Ok a) read = read ≡ Ok a
AnswersAs (Err (fault.Line n)) read = read ≡ Err n
AnswersAs (Err fault.NoMemory) read = Unit {0}

-- the line is the first one that does not fit
abbrev pub NamesFirstMisfit : (List Line → Type 0) → List ℕ → LineFault → Type 0
NamesFirstMisfit IsText bytes (fault.Line n) = IsFirstMisfit IsText bytes n
NamesFirstMisfit IsText bytes fault.NoMemory = Unit {0}

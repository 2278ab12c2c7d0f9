-- What was read of a document, and what is read behind it.
use Rattle.std.specs.Prelude.{◌≡◌, ℕ, suc, ◌-◌, List, length, ◌++◌, Option, Some, None, Result, Ok, Err, slice_get}
use Rattle.line_text.specs.declared.reading.Refused.{Refused}
use Rattle.line_text.specs.declared.reading.Refused.TheVariants as refused
use Rattle.line_text.specs.Cursor.{Fails}
use Rattle.line_text.specs.Lines.{pieces, read_from, IsFirstMisfit}
use Rattle.device_rules.specs.Rules.{At, Start}
use Rattle.domain_config.specs.Saying.{at_of}
use Rattle.answer_spec.specs.declared.answer.Answer.{Answer}
use Rattle.answer_spec.specs.declared.answer.PotLine.{PotLine}
use Rattle.answer_text.specs.declared.fault.TextFault.{TextFault}
use Rattle.answer_text.specs.declared.fault.TextFault.TheVariants as fault
use Rattle.answer_text.specs.declared.reader.Stage.{Stage}
use Rattle.answer_text.specs.declared.reader.Stage.TheVariants as seen
use Rattle.answer_text.specs.declared.reader.BodyReader.{BodyReader}
use Rattle.answer_text.specs.Reading.{Phase, Hops, Rules, Pots, Ended, Step, answer_step, answer_end}
use Rattle.answer_text.specs.Spelling.{IsDocument}

-- ---- what stands before a line

abbrev pub last_of : List PotLine → Option PotLine
last_of pots = slice_get pots (length pots - 1)

abbrev pub phase_at : Stage → List PotLine → Phase
phase_at (seen.Hops last) pots = Hops (suc last)
phase_at (seen.Rules before) pots = Rules (at_of before)
phase_at seen.Pots pots = Pots (last_of pots)
phase_at seen.Ended pots = Ended

abbrev pub phase_of : BodyReader → Phase
phase_of reader = phase_at reader.stage reader.answer.potentials

-- where a line of rules would stand
abbrev pub at_in : Stage → At
at_in (seen.Hops last) = Start
at_in (seen.Rules before) = at_of before
at_in seen.Pots = Start
at_in seen.Ended = Start

-- ---- what a line adds

-- an answer with the lists of another behind its own
abbrev pub behind_answer : Answer → Answer → Answer
behind_answer a later = record {
  request = a.request;
  outcome = a.outcome;
  hops = a.hops ++ later.hops;
  flags = a.flags ++ later.flags;
  rules = a.rules ++ later.rules;
  potentials = a.potentials ++ later.potentials;
}

-- the line leads from one reader to another, and what it adds stands behind what was read
pub record Takes (old new : BodyReader) (step : Step) : Type 0 where
  pub add : Answer → Answer
  pub leads : step ≡ Some (phase_of new, add)
  pub added : (later : Answer) → behind_answer old.answer (add later) ≡ behind_answer new.answer later

-- a line was taken, or it does not fit, or memory ran out
abbrev pub TakesBy : {X : Type 0} → BodyReader → BodyReader → Result X Refused → Step → Type 0
TakesBy old new (Ok x) step = Takes old new step
TakesBy old new (Err e) step = Fails e step

-- the same for the line of this number
abbrev pub TakesAt : {X : Type 0} → ℕ → BodyReader → BodyReader → Result X TextFault → Step → Type 0
TakesAt n old new (Ok x) step = Takes old new step
TakesAt n old new (Err (fault.Line m)) step = (m ≡ n) × (step ≡ None)
TakesAt n old new (Err fault.NoMemory) step = Unit {0}

-- ---- what a text says

-- what the bytes say from a phase on, where the first line has this number
abbrev pub said_from : Phase → ℕ → List ℕ → Result Answer ℕ
said_from phase n bytes = read_from answer_step answer_end phase n (pieces bytes)

-- what is returned is what is read, or the line that does not fit, unless memory ran out
abbrev pub AnswersAs : {A : Type 0} → Result A TextFault → Result A ℕ → Type 0
AnswersAs (Ok a) read = read ≡ Ok a
AnswersAs (Err (fault.Line n)) read = read ≡ Err n
AnswersAs (Err fault.NoMemory) read = Unit {0}

abbrev pub fault_of : ℕ → Refused → TextFault
fault_of n refused.Misfit = fault.Line n
fault_of n refused.NoMemory = fault.NoMemory

-- the line is the first one that does not fit
abbrev pub NamesFirstMisfit : List ℕ → TextFault → Type 0
NamesFirstMisfit bytes (fault.Line n) = IsFirstMisfit IsDocument bytes n
NamesFirstMisfit bytes fault.NoMemory = Unit {0}

-- this answer is returned, unless memory ran out
abbrev pub Returns : Answer → Result Answer TextFault → Type 0
Returns a (Ok read) = read ≡ a
Returns a (Err (fault.Line n)) = ⊥
Returns a (Err fault.NoMemory) = Unit {0}

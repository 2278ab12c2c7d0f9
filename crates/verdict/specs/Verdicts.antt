-- The verdict on the bytes of a document.
use Rattle.std.specs.Prelude.{◌≡◌, ◌⊎◌, ℕ, List}
use Rattle.circuit_spec.specs.Network.{Topology}
use Rattle.line_text.specs.Lines.{text_of, IsFirstMisfit}
use Rattle.answer_spec.specs.declared.answer.Answer.{Answer}
use Rattle.answer_spec.specs.WellFormed.{IsWellFormed}
use Rattle.answer_text.specs.Spelling.{IsDocument, lines_of}
use Rattle.answer_spec.specs.Certificate.{Certificate}
use Rattle.verdict.specs.declared.rules.Rule.TheVariants as rule
use Rattle.verdict.specs.declared.verdicts.Verdict.{Verdict}
use Rattle.verdict.specs.declared.verdicts.Verdict.TheVariants.{Valid, NotValid}
use Rattle.verdict.specs.Faults.{IsFirstFault}

-- the bytes are the spelling of the answer
pub record IsSpelledBy (bytes : List ℕ) (a : Answer) : Type 0 where
  pub well_formed : IsWellFormed a
  pub spelled : bytes ≡ text_of (lines_of a)

-- Valid: the bytes spell a certificate of the outcome. Not valid: they are outside the grammar, first at this line, or they spell an
-- answer of which this is the first fault.
abbrev pub IsVerdict : Topology → List ℕ → Verdict → Type 0
IsVerdict T bytes (Valid outcome) = (a : Answer) × IsSpelledBy bytes a × Certificate T a × (a.outcome ≡ outcome)
IsVerdict T bytes (NotValid line broken) =
    ((broken ≡ rule.Grammar) × IsFirstMisfit IsDocument bytes line)
    ⊎ ((a : Answer) × IsSpelledBy bytes a × IsFirstFault T a broken line)

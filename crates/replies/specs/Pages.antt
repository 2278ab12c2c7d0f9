-- The text of what is printed.
use Rattle.std.specs.Prelude.{ℕ, List}
use Rattle.std.specs.List.{concat}
use Rattle.line_text.specs.Lines.{text_of}
use Rattle.answer_text.specs.Spelling.{lines_of}
use Rattle.answer_spec.specs.WellFormed.{IsWellFormed}
use Rattle.k_text.specs.Listing.{k_lines_of}
use Rattle.replies.specs.declared.page.Source.{Source}
use Rattle.replies.specs.declared.page.Source.TheVariants.{Kept, Document, Walks}

abbrev pub text_in : Source → List ℕ
text_in (Kept lines) = concat lines
text_in (Document answer) = text_of (lines_of answer)
text_in (Walks answer) = text_of (k_lines_of answer)

-- a document has a spelling
abbrev pub IsPrintable : Source → Type 0
IsPrintable (Kept lines) = Unit {0}
IsPrintable (Document answer) = IsWellFormed answer
IsPrintable (Walks answer) = Unit {0}

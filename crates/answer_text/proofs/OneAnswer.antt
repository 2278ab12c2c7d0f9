-- A text spells one answer.
use Rattle.std.proofs.Common.{◌≡◌, ◌∙◌, ap, Result, Ok, ℕ}
use Rattle.line_text.specs.Lines.{text_of}
use Rattle.line_text.proofs.LineLaws.{text_read}
use Rattle.answer_spec.specs.declared.answer.Answer.{Answer}
use Rattle.answer_text.specs.Document.{answer_in}
use Rattle.answer_spec.specs.WellFormed.{IsWellFormed}
use Rattle.answer_text.specs.Spelling.{lines_of}
use Rattle.answer_text.specs.Reading.{Nothing, answer_step, answer_end}
use Rattle.answer_text.proofs.AnswerLaws.{document_only, lines_whole}

read_again : (a : Answer) → IsWellFormed a → answer_in (text_of (lines_of a)) ≡ Ok a
read_again a w = text_read answer_step answer_end Nothing (lines_of a) a (lines_whole a w) (document_only a w)

one_ok : (r : Result Answer ℕ) (a b : Answer) → r ≡ Ok a → r ≡ Ok b → a ≡ b
one_ok r a b e f = cc

pub spelled_once : (a b : Answer) → IsWellFormed a → IsWellFormed b → text_of (lines_of a) ≡ text_of (lines_of b) → a ≡ b
spelled_once a b wa wb same = one_ok (answer_in (text_of (lines_of a))) a b (read_again a wa) (ap answer_in same ∙ read_again b wb)

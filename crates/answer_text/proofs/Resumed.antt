-- A document that is read line by line, from its front.
use Rattle.std.proofs.Common.{◌≡◌, ◌∙◌, refl, sym, ap, subst, ℕ, suc, ◌+◌, List, [], ◌∷◌, Some, Result, Ok, Err, add-one}
use Rattle.line_text.specs.Lines.{pieces, goes_on, closing, adding, text_of}
use Rattle.line_text.proofs.LineLaws.{read_text, text_read, refused_first}
use Rattle.line_text.proofs.Onward.{line_read, taken_on, misfit_on, closed_on}
use Rattle.std.specs.Prelude.{IfOk, IfErr}
use Rattle.answer_spec.specs.declared.answer.Answer.{Answer}
use Rattle.answer_text.specs.declared.fault.TextFault.{TextFault}
use Rattle.answer_text.specs.declared.fault.TextFault.TheVariants as fault
use Rattle.answer_text.specs.declared.reader.BodyReader.{BodyReader}
use Rattle.answer_text.specs.Document.{answer_in}
use Rattle.answer_text.specs.Reading.{Phase, Nothing, Step, answer_step, answer_end, same_answer}
use Rattle.answer_spec.specs.WellFormed.{IsWellFormed}
use Rattle.answer_text.specs.Spelling.{IsDocument, lines_of}
use Rattle.answer_text.specs.Taking.{said_from, phase_of, behind_answer, Takes, TakesAt, AnswersAs, NamesFirstMisfit, Returns}
use Rattle.answer_text.proofs.AnswerLaws.{answer_grammar, document_found, document_only, lines_whole}

-- ---- the heading

-- a line that leads on, and what is read behind it
pub leads_on : (s t : Phase) (n : ℕ) (rest line later : List ℕ) (add : Answer → Answer) (r : Result Answer TextFault) → pieces rest ≡ line ∷ pieces later → answer_step s line ≡ Some (t, add)
    → AnswersAs r (adding add (said_from t (suc n) later)) → AnswersAs r (said_from s n rest)
leads_on s t n rest line later add r cut leads given =
    subst (λ (w : Result Answer ℕ). AnswersAs r w)
    (sym (line_read answer_step answer_end s n rest line later cut ∙ ap (λ (o : Step). goes_on n o (λ u. said_from u (suc n) later)) leads)) given

adding_same : (r : Result Answer ℕ) → r ≡ adding same_answer r
adding_same (Ok a) = refl
adding_same (Err n) = refl

-- a line that adds nothing
pub leads_only : (s t : Phase) (n : ℕ) (rest line later : List ℕ) (r : Result Answer TextFault) → pieces rest ≡ line ∷ pieces later → answer_step s line ≡ Some (t, same_answer)
    → AnswersAs r (said_from t (suc n) later) → AnswersAs r (said_from s n rest)
leads_only s t n rest line later r cut leads given =
    leads_on s t n rest line later same_answer r cut leads (subst (λ (w : Result Answer ℕ). AnswersAs r w) (adding_same (said_from t (suc n) later)) given)

-- a line that adds behind what was read
pub leads_behind : (s t : Phase) (n : ℕ) (rest line later : List ℕ) (f g add : Answer → Answer) (r : Result Answer TextFault) → pieces rest ≡ line ∷ pieces later → answer_step s line ≡ Some (t, add)
    → ((a : Answer) → f (add a) ≡ g a) → AnswersAs r (adding g (said_from t (suc n) later)) → AnswersAs r (adding f (said_from s n rest))
leads_behind s t n rest line later f g add r cut leads same given =
    subst (λ (w : Result Answer ℕ). AnswersAs r w) (sym (taken_on answer_step answer_end s t n rest line later f g add (adding f (said_from s n rest)) refl cut leads same)) given

-- ---- the body

pub refused_so : (n : ℕ) (old new : BodyReader) (f : TextFault) (rest line later : List ℕ) (whole : Result Answer ℕ)
    → whole ≡ adding (behind_answer old.answer) (said_from (phase_of old) n rest) → pieces rest ≡ line ∷ pieces later
    → TakesAt {X = Unit {0}} n old new (Err f) (answer_step (phase_of old) line) → AnswersAs (Err f) whole
refused_so n old new (fault.Line m) rest line later whole before cut h =
    misfit_on answer_step answer_end (phase_of old) n rest line later (behind_answer old.answer) whole before cut h.1 ∙ ap (λ (k : ℕ). Err k) (sym h.0)
refused_so n old new fault.NoMemory rest line later whole before cut h = tt

pub goes_on_so : (n : ℕ) (old new : BodyReader) (rest line later : List ℕ) (whole : Result Answer ℕ)
    → whole ≡ adding (behind_answer old.answer) (said_from (phase_of old) n rest) → pieces rest ≡ line ∷ pieces later
    → Takes old new (answer_step (phase_of old) line) → whole ≡ adding (behind_answer new.answer) (said_from (phase_of new) (n + 1) later)
goes_on_so n old new rest line later whole before cut t =
    taken_on answer_step answer_end (phase_of old) (phase_of new) n rest line later (behind_answer old.answer) (behind_answer new.answer) t.add whole before cut t.leads t.added
    ∙ ap (λ (k : ℕ). adding (behind_answer new.answer) (said_from (phase_of new) k later)) (sym (add-one n))

pub closed_so : (n : ℕ) (reader : BodyReader) (rest : List ℕ) (whole : Result Answer ℕ) (r : Result Answer TextFault)
    → whole ≡ adding (behind_answer reader.answer) (said_from (phase_of reader) n rest) → pieces rest ≡ rest ∷ []
    → AnswersAs r (adding (behind_answer reader.answer) (closing n rest (answer_end (phase_of reader)))) → AnswersAs r whole
closed_so n reader rest whole r before cut h =
    subst (λ (w : Result Answer ℕ). AnswersAs r w) (sym (closed_on answer_step answer_end (phase_of reader) n rest (behind_answer reader.answer) whole before cut)) h

-- ---- the document

pub answered_spelled : (bytes : List ℕ) (r : Result Answer TextFault) → AnswersAs r (answer_in bytes) → IfOk r (λ a. IsWellFormed a × (bytes ≡ text_of (lines_of a)))
answered_spelled bytes (Ok a) e =
    let t = read_text answer_step answer_end Nothing bytes a e in
    let f = document_found t.0 a t.2 in
    (f.well_formed, t.1 ∙ ap text_of f.spelled)
answered_spelled bytes (Err f) e = tt

pub answered_first : (bytes : List ℕ) (r : Result Answer TextFault) → AnswersAs r (answer_in bytes) → IfErr r (NamesFirstMisfit bytes)
answered_first bytes (Ok a) e = tt
answered_first bytes (Err (fault.Line n)) e = refused_first answer_step answer_end Nothing IsDocument answer_grammar bytes n e
answered_first bytes (Err fault.NoMemory) e = tt

read_again : (bytes : List ℕ) (a : Answer) → IsWellFormed a → bytes ≡ text_of (lines_of a) → answer_in bytes ≡ Ok a
read_again bytes a w is = ap answer_in is ∙ text_read answer_step answer_end Nothing (lines_of a) a (lines_whole a w) (document_only a w)

one_ok : (r : Result Answer ℕ) (a b : Answer) → r ≡ Ok a → r ≡ Ok b → a ≡ b
one_ok r a b e f = cc

no_err : (r : Result Answer ℕ) (n : ℕ) (a : Answer) → r ≡ Err n → r ≡ Ok a → ⊥
no_err r n a e f = absurd cc

pub answered_again : (bytes : List ℕ) (r : Result Answer TextFault) → AnswersAs r (answer_in bytes) → (a : Answer) → IsWellFormed a → bytes ≡ text_of (lines_of a) → Returns a r
answered_again bytes (Ok b) e a w is = one_ok (answer_in bytes) b a e (read_again bytes a w is)
answered_again bytes (Err (fault.Line n)) e a w is = no_err (answer_in bytes) n a e (read_again bytes a w is)
answered_again bytes (Err fault.NoMemory) e a w is = tt

use Rattle.std.proofs.Common.{◌≡◌, sym, subst, rules, arith, ℕ, List, [], ◌∷◌, Result}
use Rattle.std.proofs.lemmas.Result.{err_from_is_err_and}
use Rattle.line_fault.specs.declared.fault.LineFault.{LineFault}
use Rattle.line_fault.specs.Answering.{led_from, AnswersAs}
use Rattle.line_fault.proofs.Led.{answered_first, closed, led_on, taken, told_on}
use Rattle.line_text.specs.Lines.{pieces, closing}
use Rattle.sizes_text.specs.declared.reader.SizeReader.{SizeReader}
use Rattle.sizes_text.specs.Table.{SizeTable}
use Rattle.sizes_text.specs.Text.{IsSizesText}
use Rattle.sizes_text.specs.Reading.{Start, sizes_step, sizes_end, sizes_in}
use Rattle.sizes_text.specs.Seen.{at_of}
use Rattle.sizes_text.proofs.SizeLaws.{sizes_grammar}
use Rattle.sizes_text.proofs.SizeTexts.{answered_spelled}
use Rattle.sizes_text.proofs.reader.read_sizes.Goals as goal

pub loop-line-preserved : goal.loop-line-preserved
loop-line-preserved c = record {
  read = led_on sizes_step sizes_end (at_of c.loop-line.reader) (at_of c.in_ok-reader.reader) c.loop-line.number c.loop-line.rest.now c.in-Some.line.now c.in-Some.later.now _ c.loop-line.invariant.read c.in-Some.ensures.cut (taken at_of c.loop-line.number _ c.take_line.result c.in_ok-reader.reader c.take_line.ensures c.in_ok-reader.ensures);
  counted = omega (arith, c.in-Some.ensures.shorter);
}

pub returns-in_err-reader-clause-read : goal.returns-in_err-reader-clause-read
returns-in_err-reader-clause-read c =
    let p = err_from_is_err_and c.from_residual.result c.from_residual.ensures.1 in
    rw (p.1, p.2) (told_on sizes_step sizes_end at_of (at_of c.loop-line.reader) c.loop-line.number c.loop-line.rest.now c.in-Some.line.now c.in-Some.later.now _ c.take_line.result c.in_err-reader.field-0.0 c.loop-line.invariant.read c.in-Some.ensures.cut c.take_line.ensures c.in_err-reader.ensures)

pub returns-in_err-reader-clause-line : goal.returns-in_err-reader-clause-line
returns-in_err-reader-clause-line c =
    let p = err_from_is_err_and c.from_residual.result c.from_residual.ensures.1 in
    answered_first sizes_step sizes_end Start IsSizesText sizes_grammar c.args.bytes.now c.from_residual.result
    (rw (p.1, p.2) (told_on sizes_step sizes_end at_of (at_of c.loop-line.reader) c.loop-line.number c.loop-line.rest.now c.in-Some.line.now c.in-Some.later.now _ c.take_line.result c.in_err-reader.field-0.0 c.loop-line.invariant.read c.in-Some.ensures.cut c.take_line.ensures c.in_err-reader.ensures))

closed_so : (n : ℕ) (reader : SizeReader) (rest bytes : List ℕ) (r : Result SizeTable LineFault)
    → sizes_in bytes ≡ led_from sizes_step sizes_end (at_of reader) n (pieces rest) → pieces rest ≡ rest ∷ [] → AnswersAs r (closing n rest (sizes_end (at_of reader))) → AnswersAs r (sizes_in bytes)
closed_so n reader rest bytes r before cut h =
    subst (λ (whole : Result SizeTable ℕ). AnswersAs r whole) (sym (closed sizes_step sizes_end (at_of reader) n rest _ before cut)) h

pub returns-clause-spelled : goal.returns-clause-spelled
returns-clause-spelled c = answered_spelled c.args.bytes.now c.finish.result (closed_so c.loop-line.number c.loop-line.reader c.loop-line.rest.now c.args.bytes.now c.finish.result c.loop-line.invariant.read (search rules) c.finish.ensures)

pub returns-clause-line : goal.returns-clause-line
returns-clause-line c =
    answered_first sizes_step sizes_end Start IsSizesText sizes_grammar c.args.bytes.now c.finish.result
    (closed_so c.loop-line.number c.loop-line.reader c.loop-line.rest.now c.args.bytes.now c.finish.result c.loop-line.invariant.read (search rules) c.finish.ensures)

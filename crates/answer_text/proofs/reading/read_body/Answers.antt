use Rattle.std.proofs.Common.{arith}
use Rattle.std.proofs.lemmas.Result.{err_from_is_err_and}
use Rattle.answer_text.proofs.Resumed.{refused_so, goes_on_so}
use Rattle.answer_text.proofs.reading.read_body.Goals as goal

pub loop-line-preserved : goal.loop-line-preserved
loop-line-preserved c = record {
  read = goes_on_so c.loop-line.number c.loop-line.reader c.take_line.new.reader c.loop-line.rest.now c.in-Some.line.now c.in-Some.later.now _ c.loop-line.invariant.read c.in-Some.ensures.cut c.in_ok-take_line.ensures;
  counted = omega (arith, c.in-Some.ensures.shorter);
}

pub returns-in_err-take_line : goal.returns-in_err-take_line
returns-in_err-take_line c =
    let p = err_from_is_err_and c.from_residual.result c.from_residual.ensures.1 in
    rw (p.1, p.2) (refused_so c.loop-line.number c.loop-line.reader c.take_line.new.reader c.in_err-take_line.field-0.0 c.loop-line.rest.now c.in-Some.line.now c.in-Some.later.now _ c.loop-line.invariant.read c.in-Some.ensures.cut c.in_err-take_line.ensures)

use Rattle.std.proofs.Common.{rules, arith}
use Rattle.replies.proofs.Fronts.{on_err, Appends-none}
use Rattle.replies.proofs.Steps.{Appends-line, Appends-lines, front-line}
use Rattle.replies.proofs.page.write_lines.Goals as goal

pub loop-line-init : goal.loop-line-init
loop-line-init g c = record { faults = omega arith; bytes = Appends-none (g.K.Sink.written c.args.out.now) }

pub loop-line-preserved : goal.loop-line-preserved
loop-line-preserved g c = record {
  faults = search rules;
  bytes = Appends-line _ (g.K.Sink.written c.loop-line.out) _ c.args.lines.now c.loop-line.line-index c.line-item.result c.line-item.is c.loop-line-test.true c.loop-line.invariant.bytes c.in_ok-write_line.ensures.ok;
}

pub returns-clause-ok : goal.returns-clause-ok
returns-clause-ok g c = Appends-lines _ _ c.args.lines.now c.loop-line.line-index c.loop-line-test.false c.loop-line.invariant.bytes

pub returns-in_err-write_line-clause-front : goal.returns-in_err-write_line-clause-front
returns-in_err-write_line-clause-front g c = on_err c.from_residual.result
    (front-line _ (g.K.Sink.written c.loop-line.out) _ c.args.lines.now c.loop-line.line-index c.line-item.result c.line-item.is c.loop-line-test.true c.loop-line.invariant.bytes c.in_err-write_line.ensures.front)

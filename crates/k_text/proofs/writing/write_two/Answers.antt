use Rattle.line_text.proofs.Writes.{front_behind, front_of_more, on_err}
use Rattle.io_edges.proofs.Written.{Appends-join}
use Rattle.k_text.proofs.writing.write_two.Goals as goal

pub returns-in_err-write_line-clause-front : goal.returns-in_err-write_line-clause-front
returns-in_err-write_line-clause-front g c =
    on_err c.from_residual.result (front_of_more (g.K.Sink.written c.args.out.now) _ c.args.first.now c.args.second.now c.in_err-write_line.ensures.front)

pub returns-in_err-write_line-2-clause-front : goal.returns-in_err-write_line-2-clause-front
returns-in_err-write_line-2-clause-front g c =
    on_err c.from_residual-in_err-write_line-2.result
    (front_behind (g.K.Sink.written c.args.out.now) (g.K.Sink.written c.write_line.new.out) _ c.args.first.now c.args.second.now c.in_ok-write_line.ensures.ok c.in_err-write_line-2.ensures.front)

pub returns-clause-ok : goal.returns-clause-ok
returns-clause-ok g c =
    Appends-join (g.K.Sink.written c.args.out.now) (g.K.Sink.written c.write_line.new.out) (g.K.Sink.written c.write_line-2.new.out) c.args.first.now c.args.second.now c.in_ok-write_line.ensures.ok c.in_ok-write_line-2.ensures.ok

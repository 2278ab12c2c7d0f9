use Rattle.std.proofs.Common.{◌≤◌, take}
use Rattle.std.specs.List.{concat}
use Rattle.std.specs.Io.KnownBytes.{Appends}
use Rattle.replies.proofs.page.write_lines.Given as goal

abbrev pub invariant-loop-line : goal.invariant-loop-line
invariant-loop-line g l = record {
  faults : g.K.Sink.faults l.fn.out ≤ g.K.Sink.faults l.out;
  bytes : Appends (g.K.Sink.written l.fn.out) (g.K.Sink.written l.out) (concat (take l.line-index l.lines));
}

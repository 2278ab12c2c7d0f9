use Rattle.std.proofs.Common.{◌≤◌, ◌+◌, drop}
use Rattle.line_text.specs.Lines.{text_of}
use Rattle.line_text.proofs.Writes.{IsUnderway}
use Rattle.answer_text.specs.Spelling.{hop_lines}
use Rattle.answer_text.proofs.writing.write_hops.Given as goal

abbrev pub invariant-loop-at : goal.invariant-loop-at
invariant-loop-at g l = record {
  faults : g.K.Sink.faults l.fn.out ≤ g.K.Sink.faults l.out;
  underway : IsUnderway (g.K.Sink.written l.fn.out) (g.K.Sink.written l.out) (text_of (hop_lines 1 l.hops l.flags)) (text_of (hop_lines (l.at + 1) (drop l.at l.hops) (drop l.at l.flags)));
}

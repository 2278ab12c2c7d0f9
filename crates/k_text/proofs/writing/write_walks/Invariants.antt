use Rattle.std.proofs.Common.{◌≤◌, ◌+◌, drop}
use Rattle.line_text.specs.Lines.{text_of}
use Rattle.line_text.proofs.Writes.{IsUnderway}
use Rattle.k_text.specs.Listing.{walks_lines}
use Rattle.k_text.proofs.writing.write_walks.Given as goal

abbrev pub invariant-loop-at : goal.invariant-loop-at
invariant-loop-at g l = record {
  faults : g.K.Sink.faults l.fn.out ≤ g.K.Sink.faults l.out;
  underway : IsUnderway (g.K.Sink.written l.fn.out) (g.K.Sink.written l.out) (text_of (walks_lines 1 l.walks)) (text_of (walks_lines (l.at + 1) (drop l.at l.walks)));
}

use Rattle.std.proofs.Common.{◌≤◌, drop, map}
use Rattle.line_text.specs.Lines.{text_of}
use Rattle.line_text.proofs.Writes.{IsUnderway}
use Rattle.answer_text.specs.Spelling.{pot_line}
use Rattle.answer_text.proofs.writing.write_pots.Given as goal

abbrev pub invariant-loop-pot : goal.invariant-loop-pot
invariant-loop-pot g l = record {
  faults : g.K.Sink.faults l.fn.out ≤ g.K.Sink.faults l.out;
  underway : IsUnderway (g.K.Sink.written l.fn.out) (g.K.Sink.written l.out) (text_of (map pot_line l.pots)) (text_of (map pot_line (drop l.pot-index l.pots)));
}

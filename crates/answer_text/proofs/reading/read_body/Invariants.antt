use Rattle.std.proofs.Common.{◌≡◌, ◌+◌, ◌≤◌, length}
use Rattle.line_text.specs.Lines.{adding}
use Rattle.answer_text.specs.Taking.{said_from, phase_of, behind_answer}
use Rattle.answer_text.proofs.reading.read_body.Given as goal

abbrev pub invariant-loop-line : goal.invariant-loop-line
invariant-loop-line l = record {
  read : adding (behind_answer l.fn.body.answer) (said_from (phase_of l.fn.body) 4 l.fn.bytes) ≡ adding (behind_answer l.reader.answer) (said_from (phase_of l.reader) l.number l.rest);
  counted : l.number + length l.rest ≤ length l.fn.bytes + 4;
}

abbrev pub decreases-loop-line : goal.decreases-loop-line
decreases-loop-line l = length l.rest

use Rattle.std.proofs.Common.{◌≡◌, ◌+◌, ◌≤◌, length}
use Rattle.line_text.specs.Lines.{pieces}
use Rattle.line_fault.specs.Answering.{led_from}
use Rattle.sizes_text.specs.Reading.{sizes_end, sizes_in, sizes_step}
use Rattle.sizes_text.specs.Seen.{at_of}
use Rattle.sizes_text.proofs.reader.read_sizes.Given as goal

abbrev pub invariant-loop-line : goal.invariant-loop-line
invariant-loop-line l = record {
  read : sizes_in l.fn.bytes ≡ led_from sizes_step sizes_end (at_of l.reader) l.number (pieces l.rest);
  counted : l.number + length l.rest ≤ length l.fn.bytes + 1;
}

abbrev pub decreases-loop-line : goal.decreases-loop-line
decreases-loop-line l = length l.rest

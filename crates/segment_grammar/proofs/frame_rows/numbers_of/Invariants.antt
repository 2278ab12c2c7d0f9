use Rattle.std.specs.HashMap.{hash_map_len}
use Rattle.segment_grammar.specs.FrameRows.{ArePopsNumbered}
use Rattle.segment_grammar.proofs.frame_rows.numbers_of.Given as goal

abbrev pub invariant-loop-step : goal.invariant-loop-step
invariant-loop-step l = ArePopsNumbered l.machine.steps l.step l.numbers.entries (hash_map_len l.numbers)

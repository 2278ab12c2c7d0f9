use Rattle.std.proofs.Common.{◌≡◌, length}
use Rattle.knuth_search.proofs.marks.unmarked.Given as goal

abbrev pub invariant-loop-state : goal.invariant-loop-state
invariant-loop-state l = length l.marks.items ≡ l._state

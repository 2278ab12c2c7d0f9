use Rattle.std.proofs.Common.{◌≡◌}
use Rattle.knuth_search.proofs.tests.ring_machine.Given as goal

abbrev pub invariant-leaps : goal.invariant-leaps
invariant-leaps l = l.machine.states ≡ 400000

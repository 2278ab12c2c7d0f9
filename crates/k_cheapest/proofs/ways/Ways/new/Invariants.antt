use Rattle.k_cheapest.specs.Ways.{AreWays}
use Rattle.k_cheapest.proofs.ways.Ways.new.Given as goal

abbrev pub invariant-loop-number : goal.invariant-loop-number
invariant-loop-number l = AreWays l.machine l.number l.ways

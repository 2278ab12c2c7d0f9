use Rattle.std.proofs.Common.{◌-◌}
use Rattle.pair_check.specs.Exits.{IsRootBetween}
use Rattle.pair_check.proofs.under.first_of.Given as goal

abbrev pub invariant-loop-low : goal.invariant-loop-low
invariant-loop-low l = IsRootBetween l.pairs l.root l.low l.high

abbrev pub decreases-loop-low : goal.decreases-loop-low
decreases-loop-low l = l.high - l.low

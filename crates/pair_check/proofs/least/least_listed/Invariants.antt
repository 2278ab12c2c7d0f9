use Rattle.std.proofs.Common.{take}
use Rattle.pair_check.specs.Least.{IsLeastOf}
use Rattle.pair_check.proofs.least.least_listed.Given as goal

abbrev pub invariant-loop-state : goal.invariant-loop-state
invariant-loop-state l = IsLeastOf (take l.state-index l.states) l.pots l.least

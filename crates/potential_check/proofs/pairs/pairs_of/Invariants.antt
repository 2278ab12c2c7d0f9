use Rattle.std.proofs.Common.{take}
use Rattle.potential_check.specs.Pairs.{ArePairsOf}
use Rattle.potential_check.proofs.pairs.pairs_of.Given as goal

abbrev pub invariant-loop-place : goal.invariant-loop-place
invariant-loop-place l = ArePairsOf l.built (take l.place l.list) l.pots

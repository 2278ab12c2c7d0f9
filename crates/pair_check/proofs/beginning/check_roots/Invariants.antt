use Rattle.std.proofs.Common.{take}
use Rattle.std.specs.List.{All}
use Rattle.pair_check.specs.Rules.{HasRoot}
use Rattle.pair_check.proofs.beginning.check_roots.Given as goal

abbrev pub invariant-loop-place : goal.invariant-loop-place
invariant-loop-place l = All (HasRoot l.pots) (take l.place l.pairs)

use Rattle.std.proofs.Common.{take}
use Rattle.std.specs.List.{All}
use Rattle.pair_check.specs.Rules.{IsExtended}
use Rattle.pair_check.proofs.extending.check_extended.Given as goal

abbrev pub invariant-loop-place : goal.invariant-loop-place
invariant-loop-place l = All (IsExtended l.machine.steps l.pots) (take l.place l.pairs)

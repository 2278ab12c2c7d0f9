use Rattle.std.proofs.Common.{take}
use Rattle.std.specs.List.{All}
use Rattle.pair_check.specs.Rules.{IsOpened}
use Rattle.pair_check.proofs.opening.check_opened.Given as goal

abbrev pub invariant-loop-place : goal.invariant-loop-place
invariant-loop-place l = All (IsOpened l.machine.steps l.pots) (take l.place l.pairs)

use Rattle.std.proofs.Common.{take}
use Rattle.std.specs.List.{All}
use Rattle.pair_check.specs.Exits.{AreFound}
use Rattle.pair_check.specs.Rules.{IsNested}
use Rattle.pair_check.proofs.nesting.check_nested.Given as goal

abbrev pub invariant-loop-place : goal.invariant-loop-place
invariant-loop-place l = record { found : AreFound l.machine.steps l.pots l.found.entries; nests : All (IsNested l.machine.steps l.pots) (take l.place l.pairs) }

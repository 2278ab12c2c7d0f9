use Rattle.std.proofs.Common.{take}
use Rattle.std.specs.List.{All}
use Rattle.pair_check.specs.Exits.{AreFound, NestsBy}
use Rattle.pair_check.proofs.nesting.is_nested.Given as goal

abbrev pub invariant-loop-push : goal.invariant-loop-push
invariant-loop-push l = record { found : AreFound l.machine.steps l.noted.pots.now l.found.entries; nests : All (NestsBy l.machine.steps l.noted.pots.now l.pair) (take l.push-index l.push-items) }

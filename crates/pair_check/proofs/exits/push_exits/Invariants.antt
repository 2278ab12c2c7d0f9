use Rattle.std.proofs.Common.{◌≡◌, ◌++◌, map, take}
use Rattle.pair_check.specs.Exits.{exit_of}
use Rattle.pair_check.proofs.exits.push_exits.Given as goal

abbrev pub invariant-loop-pop : goal.invariant-loop-pop
invariant-loop-pop l = l.exits.items ≡ l.initial.exits.items ++ map (exit_of l.inner) (take l.pop-index l.pops)

use Rattle.std.proofs.Common.{take}
use Rattle.std.specs.List.{All}
use Rattle.pair_check.specs.Exits.{EntersRoot}
use Rattle.pair_check.proofs.opening.all_enter_roots.Given as goal

abbrev pub invariant-loop-step : goal.invariant-loop-step
invariant-loop-step l = All (EntersRoot l.machine.steps l.pots) (take l.step-index l.steps)

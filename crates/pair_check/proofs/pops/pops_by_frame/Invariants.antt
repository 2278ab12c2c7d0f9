use Rattle.std.proofs.Common.{◌≡◌, length}
use Rattle.pair_check.specs.Exits.{ArePopsIn}
use Rattle.pair_check.proofs.pops.pops_by_frame.Given as goal

abbrev pub invariant-loop-step : goal.invariant-loop-step
invariant-loop-step l = record { wide : length l.rows ≡ l.machine.frames; pops : ArePopsIn l.machine.steps l.step l.rows }

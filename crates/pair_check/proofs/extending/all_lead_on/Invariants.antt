use Rattle.std.proofs.Common.{take}
use Rattle.std.specs.List.{All}
use Rattle.pair_check.specs.Exits.{LeadsOn}
use Rattle.pair_check.proofs.extending.all_lead_on.Given as goal

abbrev pub invariant-loop-step : goal.invariant-loop-step
invariant-loop-step l = All (LeadsOn l.machine.steps l.noted.pots.now l.pair.root l.pair.weight) (take l.step-index l.steps)

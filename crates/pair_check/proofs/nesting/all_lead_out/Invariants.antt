use Rattle.std.proofs.Common.{take}
use Rattle.std.specs.List.{All}
use Rattle.pair_check.specs.Exits.{LeadsOut}
use Rattle.pair_check.proofs.nesting.all_lead_out.Given as goal

abbrev pub invariant-loop-exit : goal.invariant-loop-exit
invariant-loop-exit l = All (LeadsOut l.machine.steps l.noted.pots.now l.root l.weight) (take l.exit-index l.exits)

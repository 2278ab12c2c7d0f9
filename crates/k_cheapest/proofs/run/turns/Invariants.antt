use Rattle.std.proofs.Common.{◌≤◌, length}
use Rattle.k_cheapest.specs.Items.{waiting_of}
use Rattle.k_cheapest.specs.Searching.{Searches}
use Rattle.k_cheapest.proofs.run.turns.Given as goal

abbrev pub invariant-loop : goal.invariant-loop
invariant-loop l = record { searches : Searches l.setting l.walks (waiting_of l.queue); few : length l.walks ≤ l.k }

use Rattle.std.proofs.Common.{◌≡◌}
use Rattle.knuth_search.specs.Following.{Closes, Among, Offers}
use Rattle.knuth_search.specs.Tables.{pot_of}
use Rattle.knuth_search.proofs.settle.nests.Given as goal

abbrev pub invariant-loop-place : goal.invariant-loop-place
invariant-loop-place l = record { offers : Offers (Among (λ d p. Closes l.setting.machine.now.steps (pot_of l.prev) l.number (pot_of d) p) l.inners l.place) l.fn.queue l.queue; task : l.queue.task ≡ l.fn.queue.task }

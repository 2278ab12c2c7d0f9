use Rattle.std.proofs.Common.{◌≡◌}
use Rattle.knuth_search.specs.Following.{PushedBy, Among, Offers}
use Rattle.knuth_search.specs.Tables.{pot_of}
use Rattle.knuth_search.proofs.settle.pushes.Given as goal

abbrev pub invariant-loop-number : goal.invariant-loop-number
invariant-loop-number l = record { offers : Offers (Among (λ k p. PushedBy l.setting.machine.now.steps l.table.pots (pot_of l.prev) k p) l.numbers l.number) l.fn.queue l.queue; task : l.queue.task ≡ l.fn.queue.task }

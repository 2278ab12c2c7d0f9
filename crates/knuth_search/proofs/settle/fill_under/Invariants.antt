use Rattle.std.proofs.Common.{◌≡◌}
use Rattle.knuth_search.specs.Following.{Closes, SomePot, Among, Offers}
use Rattle.knuth_search.specs.Tables.{pot_of}
use Rattle.knuth_search.proofs.settle.fill_under.Given as goal

abbrev pub invariant-loop-number : goal.invariant-loop-number
invariant-loop-number l = record { offers : Offers (Among (λ k p. SomePot l.table.pots (λ prev p. Closes l.setting.machine.now.steps prev k (pot_of l.inner) p) p) l.numbers l.number) l.fn.queue l.queue; task : l.queue.task ≡ l.fn.queue.task }

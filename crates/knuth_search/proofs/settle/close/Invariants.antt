use Rattle.std.proofs.Common.{◌≡◌}
use Rattle.knuth_search.specs.Following.{NestedBy, Among, Offers}
use Rattle.knuth_search.specs.Tables.{pot_of}
use Rattle.knuth_search.proofs.settle.close.Given as goal

abbrev pub invariant-loop-number : goal.invariant-loop-number
invariant-loop-number l = record { offers : Offers (Among (λ k p. NestedBy l.setting.machine.now.steps (pot_of l.prev) l.push (pot_of l.inner) k p) l.pops l.number) l.fn.queue l.queue; task : l.queue.task ≡ l.fn.queue.task }

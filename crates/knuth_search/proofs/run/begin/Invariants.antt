use Rattle.std.proofs.Common.{◌≡◌}
use Rattle.ml_base.specs.declared.numbers.Root.TheVariants.{Request}
use Rattle.segment_grammar.specs.Pots.{pot}
use Rattle.knuth_search.specs.Following.{zero, Among, Offers}
use Rattle.knuth_search.proofs.run.begin.Given as goal

abbrev pub invariant-loop-number : goal.invariant-loop-number
invariant-loop-number l = record { offers : Offers (Among (λ a p. p ≡ pot Request a zero) l.starts l.number) l.fn.queue l.queue; task : l.queue.task ≡ l.fn.queue.task }

use Rattle.std.proofs.Common.{◌≡◌, ◌++◌}
use Rattle.k_cheapest.specs.Givens.{steps_of}
use Rattle.k_cheapest.specs.KLists.{numbers_of}
use Rattle.k_cheapest.proofs.listing.collect.Given as goal

abbrev pub invariant-loop-left : goal.invariant-loop-left
invariant-loop-left l = numbers_of l.steps ++ steps_of l.left ≡ steps_of l.tail

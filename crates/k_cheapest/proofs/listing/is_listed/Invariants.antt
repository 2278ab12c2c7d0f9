use Rattle.k_cheapest.specs.KLists.{numbers_of}
use Rattle.k_cheapest.proofs.Unlisted.{UnlistedBelow}
use Rattle.k_cheapest.proofs.listing.is_listed.Given as goal

abbrev pub invariant-loop-walk : goal.invariant-loop-walk
invariant-loop-walk l = UnlistedBelow l.walks (numbers_of l.steps) l.walk-index

use Rattle.std.proofs.Common.{take}
use Rattle.k_solver.specs.Walks.{AreWalksOf}
use Rattle.k_solver.proofs.listing.list_walks.Given as goal

abbrev pub invariant-loop-walk : goal.invariant-loop-walk
invariant-loop-walk l = AreWalksOf l.inventory l.built (take l.walk-index l.found) l.walks

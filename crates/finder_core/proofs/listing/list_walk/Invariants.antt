use Rattle.deriv_arena.specs.Derivation.{unfolding_of}
use Rattle.finder_core.proofs.Listings.{IsListing}
use Rattle.finder_core.proofs.listing.list_walk.Given as goal

abbrev pub invariant-loop-step : goal.invariant-loop-step
invariant-loop-step l = IsListing l.inventory l.built (unfolding_of l.deriv) l.step-iterator l.listed.hops l.listed.flags l.visited

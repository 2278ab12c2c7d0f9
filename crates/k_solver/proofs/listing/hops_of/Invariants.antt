use Rattle.std.proofs.Common.{take}
use Rattle.k_cheapest.specs.KLists.{numbers_of}
use Rattle.machine_lift.specs.Lift.{AreHopsAt}
use Rattle.k_solver.proofs.listing.hops_of.Given as goal

abbrev pub invariant-loop-step : goal.invariant-loop-step
invariant-loop-step l = AreHopsAt l.inventory l.built (numbers_of (take l.step-index l.steps)) l.hops

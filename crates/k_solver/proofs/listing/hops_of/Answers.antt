use Rattle.k_solver.proofs.Hops.{hop_more}
use Rattle.k_solver.proofs.listing.hops_of.Goals as goal

pub loop-step-preserved : goal.loop-step-preserved
loop-step-preserved c = hop_more c.args.inventory.now c.args.built.now c.args.steps.now c.loop-step.step-index _ c.loop-step.hops c.add_hop.new.hops c.loop-step-test.true c.loop-step.invariant c.in_ok-add_hop.ensures

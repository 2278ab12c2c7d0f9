use Rattle.k_solver.proofs.Hops.{walk_more}
use Rattle.k_solver.proofs.listing.list_walks.Goals as goal

pub loop-walk-preserved : goal.loop-walk-preserved
loop-walk-preserved c = walk_more c.args.inventory.now c.args.built.now c.args.found.now c.loop-walk.walk-index c.walk-item.result c.loop-walk.walks c.add_walk.new.walks c.walk-item.is c.loop-walk-test.true c.loop-walk.invariant c.in_ok-add_walk.ensures

use Rattle.knuth_search.proofs.Lanes.{begun_waiting}
use Rattle.knuth_search.proofs.queue.Queue.new.Goals as goal

pub returns-clause-waiting : goal.returns-clause-waiting
returns-clause-waiting c = begun_waiting c.in_ok-lanes.lanes.items c.lanes.result c.in_ok-lanes.ensures

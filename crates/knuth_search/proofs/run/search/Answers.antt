use Rattle.knuth_search.proofs.Gathering.{settled_of}
use Rattle.knuth_search.proofs.run.search.Goals as goal

pub returns : goal.returns
returns c = settled_of c.args.machine.now c.args.starts.now c.in_ok-table.table.task c.in_ok-table.table.pots c.in_ok-settled.settled c.in_ok-table.ensures.task c.in_ok-table.ensures.complete c.in_ok-settled.ensures

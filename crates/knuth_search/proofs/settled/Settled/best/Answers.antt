use Rattle.knuth_search.proofs.Choosing.{best_found}
use Rattle.knuth_search.proofs.settled.Settled.best.Goals as goal

pub returns-clause-some : goal.returns-clause-some
returns-clause-some c = best_found c.args.targets.now c.args.self.now c.in-Some.pot c.derivation.result c.in-Some.ensures c.derivation.ensures.some

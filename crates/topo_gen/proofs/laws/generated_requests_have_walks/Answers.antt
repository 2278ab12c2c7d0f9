use Rattle.topo_gen.proofs.Walks.{walk}
use Rattle.topo_gen.proofs.laws.generated_requests_have_walks.Goals as goal

pub returns : goal.returns
returns c = walk

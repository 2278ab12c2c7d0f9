use Rattle.topo_gen.proofs.Accepted.{accepted}
use Rattle.topo_gen.proofs.Ports.{known}
use Rattle.topo_gen.proofs.laws.generated_networks_are_accepted.Goals as goal

pub returns-clause-accepted : goal.returns-clause-accepted
returns-clause-accepted c = accepted

pub returns-clause-known : goal.returns-clause-known
returns-clause-known c = λ levels _. known levels

use Rattle.std.proofs.Common.{inr, subst}
use Rattle.circuit_spec.specs.Network.{Topology}
use Rattle.find_command.specs.Finding.{IsFound}
use Rattle.find_command.proofs.finding.find_over.Goals as goal

pub returns : goal.returns
returns c = inr (c.in_ok-inventory.ensures.accepted, subst (λ (T : Topology). IsFound c.args.request.now c.args.potentials T c.in_ok-reply.reply) c.in_ok-inventory.ensures.same c.in_ok-reply.ensures)

use Rattle.std.proofs.Common.{inr, subst}
use Rattle.circuit_spec.specs.Network.{Topology}
use Rattle.k_find_command.specs.Listing.{IsKFound}
use Rattle.k_find_command.proofs.finding.k_find_over.Goals as goal

pub returns : goal.returns
returns c = inr (c.in_ok-inventory.ensures.accepted, subst (λ (T : Topology). IsKFound c.args.request.now c.args.k T c.in_ok-reply.reply) c.in_ok-inventory.ensures.same c.in_ok-reply.ensures)

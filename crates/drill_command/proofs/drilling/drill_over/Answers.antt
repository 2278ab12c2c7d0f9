use Rattle.std.proofs.Common.{subst}
use Rattle.circuit_spec.specs.Network.{Topology}
use Rattle.drill_command.specs.Drilling.{IsSummary}
use Rattle.drill_command.proofs.drilling.drill_over.Goals as goal

pub inventory_of-requires-clause-few : goal.inventory_of-requires-clause-few
inventory_of-requires-clause-few c = c.requires.few

pub inventory_of-requires-clause-accepted : goal.inventory_of-requires-clause-accepted
inventory_of-requires-clause-accepted c = c.requires.accepted

pub inventory_of-requires-clause-ready : goal.inventory_of-requires-clause-ready
inventory_of-requires-clause-ready c = c.requires.ready

pub drill_in-requires : goal.drill_in-requires
drill_in-requires c = c.in_ok-inventory.ensures.ready

pub returns : goal.returns
returns c = subst (λ (T : Topology). IsSummary c.args.levels T c.args.request.now c.in_ok-reply.reply) c.in_ok-inventory.ensures.same c.in_ok-reply.ensures

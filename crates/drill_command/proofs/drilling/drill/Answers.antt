use Rattle.std.proofs.Common.{subst}
use Rattle.circuit_spec.specs.declared.hops.Request.{Request}
use Rattle.circuit_spec.specs.Network.{Topology}
use Rattle.topo_gen.specs.Tunnels.{generated_domains}
use Rattle.drill_command.specs.Drilling.{IsSummary}
use Rattle.drill_command.proofs.drilling.drill.Goals as goal

pub drill_over-requires-clause-few : goal.drill_over-requires-clause-few
drill_over-requires-clause-few c = c.in_ok-made.ensures.few

pub drill_over-requires-clause-accepted : goal.drill_over-requires-clause-accepted
drill_over-requires-clause-accepted c = c.in_ok-made.ensures.accepted

pub drill_over-requires-clause-ready : goal.drill_over-requires-clause-ready
drill_over-requires-clause-ready c = record { sound = c.in_ok-made.ensures.accepted.sound; known = c.in_ok-made.ensures.known }

pub returns : goal.returns
returns c =
    let made = c.in_ok-made.made in
    let reply = c.in_ok-reply.reply in
    subst (λ (r : Request). IsSummary c.args.levels (generated_domains c.args.levels) r reply) c.in_ok-made.ensures.request
    (subst (λ (T : Topology). IsSummary c.args.levels T made.request reply) c.in_ok-made.ensures.domains c.in_ok-reply.ensures)

use Rattle.std.proofs.Common.{arith, ◌≡◌}
use Rattle.machine_build.proofs.Crossed.{far_port_whole, to_state_apart}
use Rattle.machine_build.proofs.Growing.{adds_next}
use Rattle.machine_build.proofs.adding.add_far_port.Goals as goal

pub loop-state-preserved : goal.loop-state-preserved
loop-state-preserved c = adds_next _ (λ m. m.effect ≡ c.args.crossing.effect) c.fitting-span.result.first c.loop-state.state c.args.moves.now c.loop-state.moves c.add_move.new.moves c.loop-state.auto.state
    (to_state_apart c.args.inventory.now c.args.places.now.places c.args.crossing c.args.port) c.loop-state.invariant c.in_ok-add_move.ensures

pub returns : goal.returns
returns c = far_port_whole c.args.inventory.now c.args.places.now.places c.args.crossing c.args.port c.fitting-span.result c.loop-state.state c.args.moves.now c.loop-state.moves
    c.fitting-span.ensures.fitting (omega arith) (c.loop-state.auto.state-end c.fitting-span.ensures.fitting.proper) c.loop-state.invariant

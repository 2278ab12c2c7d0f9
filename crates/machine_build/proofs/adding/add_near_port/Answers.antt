use Rattle.std.proofs.Common.{arith}
use Rattle.machine_build.proofs.Passed.{from_state_apart, goes_on_none, goes_on_then, near_port_whole}
use Rattle.machine_build.proofs.Skipped.{done_on}
use Rattle.machine_build.proofs.Growing.{adds_first}
use Rattle.machine_build.proofs.adding.add_near_port.Goals as goal

pub loop-state-init : goal.loop-state-init
loop-state-init c = (omega arith, goes_on_none c.args.frames.now.keys, adds_first _ _ c.fitting-span.result.first c.args.moves.now)

pub loop-state-preserved : goal.loop-state-preserved
loop-state-preserved c = (
  omega (arith, c.loop-state.invariant.0, c.in_ok-state.ensures.past.0),
  goes_on_then c.args.frames.now.keys c.loop-state.frames.keys c.add_next_end.new.frames.keys c.loop-state.invariant.1 c.in_ok-state.ensures.on,
  done_on c.args.inventory.now c.args.places.now.places _ c.fitting-span.result.first c.loop-state.state c.in_ok-state.state c.loop-state.frames.keys c.add_next_end.new.frames.keys c.args.moves.now c.loop-state.moves c.add_next_end.new.moves
      c.loop-state.invariant.0 (omega (arith, c.in_ok-state.ensures.past.0)) (from_state_apart c.args.inventory.now c.args.places.now.places c.args.number c.args.port) c.in_ok-state.ensures.on c.loop-state.invariant.2 c.in_ok-state.ensures.adds,
)

pub returns-clause-adds : goal.returns-clause-adds
returns-clause-adds c = near_port_whole c.args.inventory.now c.args.places.now.places c.args.number c.args.port c.fitting-span.result c.loop-state.state c.loop-state.frames.keys c.args.moves.now c.loop-state.moves
    c.fitting-span.ensures.fitting (omega arith) c.loop-state.invariant.2

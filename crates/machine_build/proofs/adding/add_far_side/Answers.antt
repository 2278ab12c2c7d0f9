use Rattle.std.proofs.Common.{arith}
use Rattle.std.proofs.lemmas.Option.{slice_get-get_or}
use Rattle.machine_build.specs.Ways.{is_far}
use Rattle.machine_build.proofs.Crossed.{far_side_next, far_side_whole}
use Rattle.machine_build.proofs.Listed.{port_within}
use Rattle.machine_build.proofs.adding.add_far_side.Goals as goal

pub add_far_port-requires-clause-port : goal.add_far_port-requires-clause-port
add_far_port-requires-clause-port c = port_within c.args.inventory.now (is_far c.args.inventory.now) c.args.crossing.element c.far_ports-ports.result.now c.far_ports-ports.ensures c.loop-place.place _
    (slice_get-get_or c.far_ports-ports.result.now c.loop-place.place _ c.loop-place-test.true)

pub loop-place-preserved : goal.loop-place-preserved
loop-place-preserved c = far_side_next c.args.inventory.now c.args.places.now.places c.args.crossing c.far_ports-ports.result.now c.far_ports-ports.ensures c.loop-place.place _ c.args.moves.now c.loop-place.moves c.add_far_port.new.moves
    (slice_get-get_or c.far_ports-ports.result.now c.loop-place.place _ c.loop-place-test.true) c.loop-place.invariant c.in_ok-add_far_port.ensures

pub returns : goal.returns
returns c = far_side_whole c.args.inventory.now c.args.places.now.places c.args.crossing c.far_ports-ports.result.now c.far_ports-ports.ensures c.loop-place.place c.args.moves.now c.loop-place.moves (omega arith) c.loop-place.invariant

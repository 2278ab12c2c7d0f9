use Rattle.std.proofs.Common.{arith, length, sym, ◌∙◌}
use Rattle.std.proofs.lemmas.Bool.{eqb-true}
use Rattle.std.proofs.lemmas.Option.{slice_get-get_or}
use Rattle.machine_build.proofs.Passed.{done_next, element_whole, from_port, from_port_apart, goes_on_none, goes_on_then, near_port, no_far}
use Rattle.machine_build.proofs.Growing.{adds_first}
use Rattle.machine_build.proofs.adding.add_element.Goals as goal

pub returns-then-is_empty-clause-adds : goal.returns-then-is_empty-clause-adds
returns-then-is_empty-clause-adds c = no_far c.args.inventory.now c.args.places.now.places c.args.number c.far_ports.result.now c.far_ports.ensures (eqb-true (length c.far_ports.result.now) 0 (sym c.is_empty.ensures ∙ c.if-is_empty.true)) c.args.frames.now.keys c.args.moves.now

pub loop-place-init : goal.loop-place-init
loop-place-init c = (goes_on_none c.args.frames.now.keys, adds_first _ _ 0 c.args.moves.now)

pub loop-place-preserved : goal.loop-place-preserved
loop-place-preserved c = (
  goes_on_then c.args.frames.now.keys c.loop-place.frames.keys c.add_near_port.new.frames.keys c.loop-place.invariant.0 c.in_ok-add_near_port.ensures.on,
  done_next c.args.inventory.now c.args.places.now.places _ 0 c.loop-place.place c.loop-place.frames.keys c.add_near_port.new.frames.keys c.args.moves.now c.loop-place.moves c.add_near_port.new.moves
      (omega arith) (from_port_apart c.args.inventory.now c.args.places.now.places c.args.number c.near_ports-ports.result.now c.near_ports-ports.ensures) c.in_ok-add_near_port.ensures.on c.loop-place.invariant.1
      (from_port c.args.inventory.now c.args.places.now.places c.args.number c.near_ports-ports.result.now c.near_ports-ports.ensures c.loop-place.place _ c.add_near_port.new.frames.keys c.loop-place.moves c.add_near_port.new.moves
      (slice_get-get_or c.near_ports-ports.result.now c.loop-place.place _ c.loop-place-test.true) c.in_ok-add_near_port.ensures.adds),
)

pub add_near_port-requires-clause-near : goal.add_near_port-requires-clause-near
add_near_port-requires-clause-near c = near_port c.args.inventory.now c.args.places.now.places c.args.number c.near_ports-ports.result.now c.near_ports-ports.ensures c.loop-place.place _ (slice_get-get_or c.near_ports-ports.result.now c.loop-place.place _ c.loop-place-test.true)

pub returns-clause-adds : goal.returns-clause-adds
returns-clause-adds c = element_whole c.args.inventory.now c.args.places.now.places c.args.number c.near_ports-ports.result.now c.near_ports-ports.ensures c.loop-place.place c.loop-place.frames.keys c.args.moves.now c.loop-place.moves (omega arith) c.loop-place.invariant.1

use Rattle.std.proofs.Common.{sym, ◌∙◌}
use Rattle.std.proofs.lemmas.Option.{slice_get_within}
use Rattle.circuit_spec.specs.Network.{elements_of, ports}
use Rattle.machine_build.proofs.Passed.{element_there, goes_on_none, label_there, near_end_by, takes_none}
use Rattle.machine_build.proofs.adding.add_near_end.Goals as goal

pub returns-then-not-takes-clause-on : goal.returns-then-not-takes-clause-on
returns-then-not-takes-clause-on c = goes_on_none c.args.frames.now.keys

pub returns-then-not-takes-clause-adds : goal.returns-then-not-takes-clause-adds
returns-then-not-takes-clause-adds c = takes_none c.args.inventory.now c.args.places.now.places c.args.number c.args.near c.requires.near c.in-Some.element.now c.place.result.now.label
    (element_there c.args.inventory.now c.args.places.now.places c.args.number c.args.near c.requires.near c.in-Some.element.now (sym c.in-Some.ensures))
    (label_there c.args.inventory.now c.args.places.now.places c.args.number c.args.near c.requires.near c.place.result.now c.place.ensures)
    c.args.frames.now.keys c.args.moves.now (sym c.takes.ensures ∙ c.if-not-takes.true)

pub effect_of-requires-clause-port : goal.effect_of-requires-clause-port
effect_of-requires-clause-port c = slice_get_within (ports c.args.inventory.now) c.args.near.port.0 c.requires.near.port c.requires.near.is_end.port_at

pub add_far_side-requires-clause-element : goal.add_far_side-requires-clause-element
add_far_side-requires-clause-element c = slice_get_within (elements_of c.args.inventory.now) c.args.number c.requires.near.near.placed c.requires.near.near.element_at

pub returns-clause-adds : goal.returns-clause-adds
returns-clause-adds c = near_end_by c.args.inventory.now c.args.places.now.places c.args.number c.args.near c.requires.near c.in-Some.element.now c.place.result.now.label
    (element_there c.args.inventory.now c.args.places.now.places c.args.number c.args.near c.requires.near c.in-Some.element.now (sym c.in-Some.ensures))
    (label_there c.args.inventory.now c.args.places.now.places c.args.number c.args.near c.requires.near c.place.result.now c.place.ensures)
    c.in_ok-effect.effect c.effect_of.new.frames.keys (sym c.takes.ensures ∙ c.if-not-takes.false) c.in_ok-effect.ensures.effect c.changes.result c.args.moves.now c.add_far_side.new.moves c.changes.ensures c.in_ok-add_far_side.ensures

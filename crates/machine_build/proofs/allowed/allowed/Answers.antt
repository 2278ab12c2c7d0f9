use Rattle.machine_build.proofs.Chosen.{all_allowed, no_class, port_named}
use Rattle.machine_build.proofs.allowed.allowed.Goals as goal

pub unreachable-requires : goal.unreachable-requires
unreachable-requires c = no_class c.args.inventory.now c.args.port.now c.text.result.now c.port.result c.text.ensures.text c.port.ensures c.in_default.is c.requires.known.0 c.requires.known.1

pub states_in-requires : goal.states_in-requires
states_in-requires c = c.wished-span.ensures.proper

pub returns : goal.returns
returns c = all_allowed c.args.inventory.now c.args.places.now.places c.args.port.now c.args.wish c.in-Some.number c.wished-span.result c.in_ok-states.states.items c.requires.all_open
    (port_named c.args.inventory.now c.args.port.now c.text.result.now c.port.result c.in-Some.number c.text.ensures.text c.port.ensures c.in-Some.is) c.wished-span.ensures c.in_ok-states.ensures

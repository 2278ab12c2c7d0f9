use Rattle.finder_core.proofs.Refused.{class_found, no_port, port_numbered, port_unnumbered}
use Rattle.finder_core.proofs.known.class_of.Goals as goal

pub returns-in-Some-clause-ok : goal.returns-in-Some-clause-ok
returns-in-Some-clause-ok c = class_found c.args.inventory.now c.args.id.now c.in-Some.port.0 c.class.result.0
    (port_numbered c.args.inventory.now c.text.result.now c.args.id.now c.in-Some.port c.text.ensures.text c.in-Some.ensures) c.class.ensures

pub returns-in_ok-id-in-None-clause-err : goal.returns-in_ok-id-in-None-clause-err
returns-in_ok-id-in-None-clause-err c = (
  no_port c.args.inventory.now c.args.id.now (port_unnumbered c.args.inventory.now c.text.result.now c.args.id.now c.text.ensures.text c.in-None.ensures),
  c.in_ok-id-in-None.ensures,
)

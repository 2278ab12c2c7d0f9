use Rattle.packet_replay.proofs.Named.{end_found, no_end}
use Rattle.rule_replay.proofs.known.class_of.Goals as goal

pub returns-in-Some : goal.returns-in-Some
returns-in-Some c =
    let found = end_found c.args.inventory.now c.text.result.now c.args.id.now c.in-Some.port c.class.result c.text.ensures.text c.in-Some.ensures c.class.ensures in
    record { class = found.0; at = found.1.class_at; is_class = found.1.is_class }

pub returns-in-None : goal.returns-in-None
returns-in-None c = no_end c.args.inventory.now c.text.result.now c.args.id.now c.text.ensures.text c.in-None.ensures

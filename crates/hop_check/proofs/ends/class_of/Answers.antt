use Rattle.packet_replay.proofs.Named.{no_end}
use Rattle.hop_check.proofs.Named.{class_found}
use Rattle.hop_check.proofs.ends.class_of.Goals as goal

pub returns-in-Some : goal.returns-in-Some
returns-in-Some c = class_found c.args.inventory.now c.text.result.now c.args.id.now c.in-Some.port c.class.result c.text.ensures.text c.in-Some.ensures c.class.ensures

pub returns-in-None : goal.returns-in-None
returns-in-None c = no_end c.args.inventory.now c.text.result.now c.args.id.now c.text.ensures.text c.in-None.ensures

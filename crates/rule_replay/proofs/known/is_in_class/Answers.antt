use Rattle.rule_replay.proofs.Ending.{named_class, no_class}
use Rattle.rule_replay.proofs.known.is_in_class.Goals as goal

pub returns-in-Some : goal.returns-in-Some
returns-in-Some c = named_class c.args.inventory.now c.args.id.now c.args.name.now c.in-Some.class.0 c.is_named.result c.in-Some.ensures c.is_named.ensures

pub returns-in-None : goal.returns-in-None
returns-in-None c = no_class c.args.inventory.now c.args.id.now c.args.name.now c.in-None.ensures

use Rattle.rule_replay.proofs.Ending.{known_end, unknown_end}
use Rattle.rule_replay.proofs.known.is_known_end.Goals as goal

pub returns-in-Some : goal.returns-in-Some
returns-in-Some c = known_end c.args.inventory.now c.args.id.now c.in-Some.class.0 c.args.wish c.is_here.result c.in-Some.ensures c.is_here.ensures

pub returns-in-None : goal.returns-in-None
returns-in-None c = unknown_end c.args.inventory.now c.args.id.now c.args.wish c.in-None.ensures

use Rattle.rule_replay.proofs.Forwarded.{carried_forward}
use Rattle.rule_replay.proofs.laws.carried_rules_forward.Goals as goal

pub returns : goal.returns
returns c T bytes n told = carried_forward T bytes n told

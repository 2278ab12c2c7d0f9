use Rattle.rule_replay.proofs.Walking.{carried_walks}
use Rattle.rule_replay.proofs.laws.walks_are_carried.Goals as goal

pub returns : goal.returns
returns c T bytes a shown is told = carried_walks T bytes a shown is told

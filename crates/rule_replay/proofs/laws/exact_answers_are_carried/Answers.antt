use Rattle.rule_replay.proofs.Forwarded.{exact_carried}
use Rattle.rule_replay.proofs.laws.exact_answers_are_carried.Goals as goal

pub returns : goal.returns
returns c T a exact well found = exact_carried T a exact well found

use Rattle.rule_replay.proofs.Forwarded.{one_text}
use Rattle.rule_replay.proofs.Single.{replayed_one}
use Rattle.rule_replay.proofs.laws.replayed_is_one.Goals as goal

pub returns : goal.returns
returns c T bytes x y p q = replayed_one T one_text bytes x y p q

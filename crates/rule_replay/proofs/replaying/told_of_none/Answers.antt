use Rattle.rule_replay.proofs.Telling.{none_carried}
use Rattle.rule_replay.proofs.replaying.told_of_none.Goals as goal

pub returns-then-serves_both : goal.returns-then-serves_both
returns-then-serves_both c = none_carried c.args.inventory.now c.args.request.now (c.serves_both.ensures.0 c.if-serves_both.true)

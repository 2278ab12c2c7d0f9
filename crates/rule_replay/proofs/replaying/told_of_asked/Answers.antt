use Rattle.std.proofs.Common.{subst}
use Rattle.std.proofs.lemmas.Result.{IfOk-weaker}
use Rattle.rule_replay.specs.Carrying.{IsToldOfHops}
use Rattle.rule_replay.specs.Replaying.{IsReplayed}
use Rattle.rule_replay.specs.Slots.{IsNumbering}
use Rattle.rule_replay.proofs.Telling.{told_replayed}
use Rattle.rule_replay.proofs.replaying.told_of_asked.Goals as goal

pub returns-in-Hops : goal.returns-in-Hops
returns-in-Hops c bytes asked =
    IfOk-weaker c.told_of_hops.result (IsToldOfHops c.args.inventory.now c.args.answer.now.request c.in-Hops.hops) (IsReplayed c.args.inventory.now bytes)
    (told_replayed c.args.inventory.now bytes c.args.answer.now c.in-Hops.hops asked (subst (IsNumbering c.args.answer.now.rules) c.in-Hops.is c.in_ok-hops.ensures)) c.told_of_hops.ensures

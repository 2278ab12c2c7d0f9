use Rattle.rule_replay.proofs.replaying.replay.Goals as goal

pub returns-in-Ok : goal.returns-in-Ok
returns-in-Ok c = c.replay_answer.ensures c.args.bytes.now c.in-Ok.ensures.spelled

use Rattle.rule_replay.proofs.replaying.replay_answer.Goals as goal

pub returns : goal.returns
returns c bytes spells = c.told_of_asked.ensures bytes (record { spells = spells; found = c.is_found.ensures.0 c.if-not-is_found.false; known = c.is_known.ensures.0 c.if-not-is_known.false })

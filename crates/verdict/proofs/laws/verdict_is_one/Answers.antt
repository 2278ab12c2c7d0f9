use Rattle.verdict.proofs.OneVerdict.{one_verdict}
use Rattle.verdict.proofs.laws.verdict_is_one.Goals as goal

pub returns : goal.returns
returns c = one_verdict c.texts_spell_one_answer.ensures

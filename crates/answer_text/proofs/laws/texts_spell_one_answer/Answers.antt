use Rattle.answer_text.proofs.OneAnswer.{spelled_once}
use Rattle.answer_text.proofs.laws.texts_spell_one_answer.Goals as goal

pub returns : goal.returns
returns c = spelled_once

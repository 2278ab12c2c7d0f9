use Rattle.std.proofs.Common.{◌∙◌}
use Rattle.std.specs.Prelude.{codes}
use Rattle.line_text.proofs.Numbers.{same_words}
use Rattle.answer_text.specs.Reading.{hop_words_of}
use Rattle.answer_text.specs.Views.{hop_view}
use Rattle.answer_text.proofs.Keyed.{given_behind}
use Rattle.answer_text.proofs.steps.hop_of_line.Goals as goal

pub returns : goal.returns
returns c = given_behind hop_view c.hop_words.result (codes "hop") _ hop_words_of _ _ c.cut.ensures (same_words _ _ c.ne.result c.ne.ensures c.if-ne.false ∙ c.as_slice.ensures) c.hop_words.ensures

-- Where a line of a document's body leads, and what it adds.
use Rattle.std.specs.Prelude.{Some}
use Rattle.device_rules.specs.Rules.{At}
use Rattle.domain_config.specs.Saying.{step_of}
use Rattle.answer_spec.specs.declared.answer.Answer.{Answer}
use Rattle.answer_text.specs.declared.body.BodyLine.{BodyLine}
use Rattle.answer_text.specs.declared.body.BodyLine.TheVariants as seen
use Rattle.answer_text.specs.Reading.{Phase, Rules, Pots, Ended, add_rules, add_pot, same_answer}
use Rattle.answer_text.specs.Views.{hop_added}

abbrev pub line_step : At → BodyLine → Phase × (Answer → Answer)
line_step at (seen.Hop x) = hop_added x.number x
line_step at (seen.Rule said) = (Rules (step_of at said).0, add_rules (step_of at said).1)
line_step at (seen.Pot p) = (Pots (Some p), add_pot p)
line_step at seen.End = (Ended, same_answer)

use Rattle.std.proofs.Common.{◌∙◌, ap}
use Rattle.device_rules.specs.Rules.{Start}
use Rattle.answer_text.specs.Taking.{last_of}
use Rattle.answer_text.proofs.Grown.{pots_at}
use Rattle.answer_text.proofs.reader.BodyReader.said.Goals as goal

pub returns-in-Pots : goal.returns-in-Pots
returns-in-Pots c = pots_at c.args.self.now c.pots_said.result c.args.line.now _ c.in-Pots.is (c.last.ensures.value ∙ ap last_of c.as_slice.ensures) (c.pots_said.ensures Start)

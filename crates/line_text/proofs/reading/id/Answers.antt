use Rattle.line_text.proofs.Numbers.{id_not_utf8, id_read}
use Rattle.line_text.proofs.reading.id.Goals as goal

pub returns-in_default : goal.returns-in_default
returns-in_default c = id_not_utf8 c.args.word.now c.in_default.ensures.cases.0

pub returns-in-Ok-new : goal.returns-in-Ok-new
returns-in-Ok-new c = id_read c.args.word.now c.in-Ok.text.now c.in-Ok-new.id c.in-Ok.ensures.cases.0 c.in-Ok-new.ensures.ok.0 c.in-Ok-new.ensures.ok.1

use Rattle.answer_text.proofs.Grown.{pot_taken}
use Rattle.answer_text.proofs.reader.BodyReader.add_pot.Goals as goal

pub returns : goal.returns
returns c = pot_taken c.args.self.now c.push.new.self c.args.pot c.in-Ok.ensures.ok

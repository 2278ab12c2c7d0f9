use Rattle.answer_text.proofs.Grown.{rule_taken}
use Rattle.answer_text.proofs.reader.BodyReader.add_rule.Goals as goal

pub returns : goal.returns
returns c = rule_taken c.args.self.now c.count.new.self c.push.new.self c.args.rule c.count.ensures c.in-Ok.ensures.ok

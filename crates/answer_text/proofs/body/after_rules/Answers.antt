use Rattle.std.proofs.Common.{◌≡◌, true, rules}
use Rattle.answer_text.specs.Leading.{line_step}
use Rattle.domain_config.specs.Saying.{at_of}
use Rattle.answer_text.proofs.Keyed.{given_ended}
use Rattle.answer_text.proofs.body.after_rules.Goals as goal

pub returns : goal.returns
returns c =
    let ended : c.may_end.result ≡ true = search rules in
    given_ended (line_step (at_of c.args.before.now)) c.pots_said.result _ c.may_end.result _ c.may_end.ensures ended (c.pots_said.ensures (at_of c.args.before.now))

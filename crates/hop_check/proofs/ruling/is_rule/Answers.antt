use Rattle.std.proofs.Common.{ap}
use Rattle.std.specs.Prelude.{option_copied}
use Rattle.hop_check.proofs.SameHop.{same_parts, same_rule}
use Rattle.hop_check.proofs.ruling.is_rule.Goals as goal

pub returns-then-due-rule : goal.returns-then-due-rule
unfolding same_parts
returns-then-due-rule c = same_rule c.in-Some.due.now c.args.rule.now (option_copied c.args.due) c.eq.result (ap option_copied c.in-Some.is) c.if-due-rule.true c.eq.ensures

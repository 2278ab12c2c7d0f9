use Rattle.verdict.proofs.OneFault.{not_both}
use Rattle.verdict.proofs.laws.failing_rules_do_not_pass.Goals as goal

pub returns : goal.returns
returns c = not_both

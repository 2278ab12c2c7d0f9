use Rattle.pair_check.proofs.Listed.{enters}
use Rattle.pair_check.proofs.opening.enters_root.Goals as goal

pub returns : goal.returns
returns c = enters c.args.machine.now.steps c.args.pots.now c.args.step c.step.result c.step.ensures.found c.is_listed_at_zero.result c.requires.roots c.is_listed_at_zero.ensures

use Rattle.layer_check.proofs.Repeating.{repeats}
use Rattle.layer_check.proofs.services.check_next_service.Goals as goal

pub returns-then-is_repeat-clause-none : goal.returns-then-is_repeat-clause-none
returns-then-is_repeat-clause-none c = repeats c.args.inventory.now c.args.number (c.is_repeat.ensures c.if-is_repeat.true) c.requires.before

use Rattle.finder_core.proofs.Refused.{from_missed, to_missed, to_unknown}
use Rattle.finder_core.proofs.known.check_known.Goals as goal

pub returns-in-Err-class_of-clause-err : goal.returns-in-Err-class_of-clause-err
returns-in-Err-class_of-clause-err c = to_unknown c.args.inventory.now c.args.request.now c.in-Ok.class.0 c.in-Err-class_of.fault c.in-Ok.ensures.ok c.in-Err-class_of.ensures.err

pub returns-in-Err-check_wish-clause-err : goal.returns-in-Err-check_wish-clause-err
returns-in-Err-check_wish-clause-err c = from_missed c.args.inventory.now c.args.request.now c.in-Ok.class.0 c.in-Ok-class_of.class.0 c.in-Err-check_wish.fault c.in-Ok.ensures.ok c.in-Ok-class_of.ensures.ok c.in-Err-check_wish.ensures.err

pub returns-in-Err-check_wish-2-clause-err : goal.returns-in-Err-check_wish-2-clause-err
returns-in-Err-check_wish-2-clause-err c = to_missed c.args.inventory.now c.args.request.now c.in-Ok.class.0 c.in-Ok-class_of.class.0 c.in-Err-check_wish-2.fault c.in-Ok.ensures.ok c.in-Ok-class_of.ensures.ok c.in_default.ensures.ok c.in-Err-check_wish-2.ensures.err

use Rattle.layer_check.proofs.Fitting.{fit_here, unfit_here}
use Rattle.layer_check.proofs.classes.unfit_class.Goals as goal

pub returns-then-is_other : goal.returns-then-is_other
returns-then-is_other c =
    unfit_here c.args.inventory.now c.args.port.0 c.class-class.result.0 c.is_other.result c.class-class.ensures c.is_other.ensures c.if-is_other.true

pub returns : goal.returns
returns c =
    fit_here c.args.inventory.now c.args.port.0 c.class-class.result.0 c.is_other.result c.class-class.ensures c.is_other.ensures c.if-is_other.false

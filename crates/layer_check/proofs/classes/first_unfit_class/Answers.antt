use Rattle.std.proofs.Common.{ℕ, subst, arith}
use Rattle.layer_check.specs.Classes.{IsLeastUnfit}
use Rattle.layer_check.proofs.Fitting.{least_more}
use Rattle.layer_check.proofs.classes.first_unfit_class.Goals as goal

pub loop-number-preserved : goal.loop-number-preserved
loop-number-preserved c =
    least_more c.args.inventory.now c.loop-number.number c.loop-number.first c.unfit_class.result c.lesser-first.result c.is_merged.ensures c.loop-number.invariant c.unfit_class.ensures c.lesser-first.ensures

pub returns : goal.returns
returns c =
    subst (λ (k : ℕ). IsLeastUnfit c.args.inventory.now k c.loop-number.first) (omega arith) c.loop-number.invariant

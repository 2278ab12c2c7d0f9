use Rattle.layer_check.specs.Classes.{IsLeastUnfit}
use Rattle.layer_check.proofs.classes.first_unfit_class.Given as goal

abbrev pub invariant-loop-number : goal.invariant-loop-number
invariant-loop-number l = IsLeastUnfit l.inventory l.number l.first

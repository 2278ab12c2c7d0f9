use Rattle.std.proofs.Common.{Ok, true, refl, sym, ap}
use Rattle.std.proofs.lemmas.Result.{err_from_is_err_and}
use Rattle.nml_elements.specs.declared.elements.Labels.TheVariants.{Of}
use Rattle.nml_elements.specs.LabelReading.{group_label_at}
use Rattle.nml_elements.proofs.Failing.{Fails-bind}
use Rattle.nml_elements.proofs.Fitting.{fitted_by}
use Rattle.nml_elements.proofs.label_reading.group_label_of.Goals as goal

pub returns-in_default : goal.returns-in_default
unfolding group_label_at
returns-in_default c = rw (← c.in_default.ensures, c.unlabelled.ensures) refl

pub returns-in_err-labeltype : goal.returns-in_err-labeltype
unfolding group_label_at
returns-in_err-labeltype c =
    let p = err_from_is_err_and c.from_residual.result c.from_residual.ensures.1 in
    rw (p.1, p.2, ← c.in-Some.ensures) (Fails-bind _ _ _ c.in_err-labeltype.ensures)

pub returns-in_err-set : goal.returns-in_err-set
unfolding group_label_at
returns-in_err-set c =
    let p = err_from_is_err_and c.from_residual-in_err-set.result c.from_residual-in_err-set.ensures.1 in
    rw (p.1, p.2, ← c.in-Some.ensures, c.in_ok-labeltype.ensures, ← c.in-Some-values_in.ensures) (Fails-bind _ _ _ c.in_err-set.ensures)

pub returns : goal.returns
unfolding group_label_at
returns c = rw (← c.in-Some.ensures, c.in_ok-labeltype.ensures, ← c.in-Some-values_in.ensures, c.in_ok-set.ensures.1) (ap Ok (fitted_by true _ _ (ap (Of c.in_ok-labeltype.labeltype) (sym c.in_ok-set.ensures.2)) _ _))

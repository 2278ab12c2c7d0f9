use Rattle.std.proofs.Common.{Ok, false, refl, sym, ap}
use Rattle.std.proofs.lemmas.Bool.{lt-ltb}
use Rattle.nml_elements.specs.declared.elements.Labels.TheVariants.{Of}
use Rattle.nml_elements.specs.LabelReading.{label_at}
use Rattle.nml_elements.proofs.Fitting.{fitted_by}
use Rattle.nml_elements.proofs.label_reading.label_of.Goals as goal

pub returns-in_default : goal.returns-in_default
unfolding label_at
returns-in_default c = rw (← c.in_default.ensures, c.unlabelled.ensures) refl

pub returns : goal.returns
unfolding label_at
returns c = rw (← c.in-Some.ensures, c.in_ok-labeltype.ensures, ← c.in-Some-value_in.ensures, lt-ltb _ _ c.if-label.true) (ap Ok (fitted_by false _ _ (ap (Of c.in_ok-labeltype.labeltype) (sym c.in_ok-set.ensures)) _ _))

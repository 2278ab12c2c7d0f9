use Rattle.std.proofs.Common.{refl}
use Rattle.nml_elements.specs.ElementReading.{port_at}
use Rattle.nml_elements.proofs.Fitting.{fits_once}
use Rattle.nml_elements.proofs.element_reading.port_of.Goals as goal

pub returns : goal.returns
unfolding port_at
returns c = rw (c.in_ok-id.ensures, c.in_ok-encoding.ensures, c.in_ok-fitted.ensures, c.in_ok-sources.ensures, c.in_ok-sinks.ensures, c.in_ok-services.ensures, c.in_ok-aliases.ensures, fits_once c.in_ok-fitted.fitted.group c.in_ok-fitted.fitted.labels c.in_ok-fitted.fitted.labelled c.result-1.given.0) refl

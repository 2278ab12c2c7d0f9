use Rattle.std.proofs.Common.{false, refl}
use Rattle.nml_elements.specs.declared.elements.Labels.TheVariants.{Unlabelled}
use Rattle.nml_elements.proofs.Fitting.{fits_once}
use Rattle.topo_gen.proofs.elements.link.Goals as goal

pub returns : goal.returns
returns c = rw (fits_once false Unlabelled c.result-1.given.0 refl) refl

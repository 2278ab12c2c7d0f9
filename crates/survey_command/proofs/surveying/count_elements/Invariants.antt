use Rattle.std.proofs.Common.{◌≡◌, take}
use Rattle.circuit_spec.specs.Network.{elements_of}
use Rattle.survey_command.specs.Surveying.{links_in, services_in}
use Rattle.survey_command.proofs.surveying.count_elements.Given as goal

abbrev pub invariant-loop-number : goal.invariant-loop-number
invariant-loop-number l = record {
  links : l.counts.links ≡ links_in (take l.number (elements_of l.inventory));
  services : l.counts.services ≡ services_in (take l.number (elements_of l.inventory));
}

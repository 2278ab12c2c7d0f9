use Rattle.nml_elements.proofs.Located.{Reads-at_element}
use Rattle.nml_elements.proofs.file_reading.located_element_of.Goals as goal

pub returns : goal.returns
returns c = rw c.at_element.ensures (Reads-at_element _ _ _ c.element_of.ensures)

use Rattle.nml_elements.proofs.Located.{Reads-at_element}
use Rattle.nml_elements.proofs.file_reading.topology_of.Goals as goal

pub returns : goal.returns
returns c = rw c.at_element.ensures (Reads-at_element _ _ _ c.required_id_of.ensures)

use Rattle.nml_elements.proofs.IdTest.{id_text, text_id}
use Rattle.nml_elements.proofs.laws.ids_are_decided.Goals as goal

pub returns : goal.returns
returns c = λ text. (id_text text, text_id text)

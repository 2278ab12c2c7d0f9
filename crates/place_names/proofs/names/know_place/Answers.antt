use Rattle.std.proofs.Common.{◌∙◌, sym, ap}
use Rattle.place_names.specs.Names.{is_id}
use Rattle.place_names.proofs.Ids.{text_id}
use Rattle.place_names.proofs.names.know_place.Goals as goal

pub returns-clause-id : goal.returns-clause-id
returns-clause-id c = ap is_id (sym c.text-text.ensures.text) ∙ text_id c.text-text.result.now c.text-text.ensures.id

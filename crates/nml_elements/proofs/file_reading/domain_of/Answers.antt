use Rattle.serde_json.specs.View.{view, items_view}
use Rattle.nml_elements.proofs.Numbers.{read_within}
use Rattle.nml_elements.proofs.file_reading.domain_of.Goals as goal

pub returns-clause-within : goal.returns-clause-within
returns-clause-within c =
    let read = rw c.deref.ensures.value at c.in_ok-elements.ensures in
    read_within (view c.args.value.now) (items_view c.in_ok-values.values.now.items) c.in_ok-elements.elements c.in_ok-values.ensures read

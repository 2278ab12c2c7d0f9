use Rattle.std.proofs.Common.{ap}
use Rattle.label_sets.proofs.GroupSet.{spelt_set, refused_text}
use Rattle.nml_elements.specs.LabelReading.{group_fault, set_at}
use Rattle.nml_elements.proofs.label_reading.set_of.Goals as goal

pub returns-in-Ok : goal.returns-in-Ok
unfolding set_at
returns-in-Ok c =
    let spelt = spelt_set _ _ c.in-Ok.ensures in
    (spelt.0, ap group_fault spelt.1, spelt.2)

pub returns-in-Err-Text : goal.returns-in-Err-Text
unfolding set_at
returns-in-Err-Text c = ap group_fault (refused_text _ _ (rw c.in-Err-Text.field-0-is at c.in-Err-Text.ensures))

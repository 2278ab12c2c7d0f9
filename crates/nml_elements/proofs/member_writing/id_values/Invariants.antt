use Rattle.nml_elements.proofs.Listed.{AreTexts}
use Rattle.nml_elements.proofs.member_writing.id_values.Given as goal

abbrev pub invariant-loop-id : goal.invariant-loop-id
invariant-loop-id l = AreTexts l.values.items l.ids l.id-index

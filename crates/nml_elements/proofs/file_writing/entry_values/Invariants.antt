use Rattle.nml_elements.proofs.Listed.{AreEntries}
use Rattle.nml_elements.proofs.file_writing.entry_values.Given as goal

abbrev pub invariant-loop-entry : goal.invariant-loop-entry
invariant-loop-entry l = AreEntries l.values.items l.entries l.entry-index

use Rattle.nml_elements.proofs.Listed.{entries_more}
use Rattle.nml_elements.proofs.file_writing.entry_values.Goals as goal

pub loop-entry-preserved : goal.loop-entry-preserved
loop-entry-preserved c =
    rw c.in_ok-push_value.ensures
    (entries_more _ _ _ c.in_ok-value.value c.entry-item.result c.loop-entry.invariant c.loop-entry-test.true c.entry-item.is c.in_ok-value.ensures.written c.in_ok-value.ensures.kept)

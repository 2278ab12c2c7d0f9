use Rattle.nml_elements.proofs.Listed.{texts_more}
use Rattle.nml_elements.proofs.member_writing.id_values.Goals as goal

pub loop-id-preserved : goal.loop-id-preserved
loop-id-preserved c =
    rw c.in_ok-push_value.ensures
    (texts_more _ _ _ c.in_ok-value.value c.id-item.result c.loop-id.invariant c.loop-id-test.true c.id-item.is c.in_ok-value.ensures.written c.in_ok-value.ensures.kept)

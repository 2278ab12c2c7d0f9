use Rattle.nml_elements.proofs.Copied.{copied_more, copied_all}
use Rattle.nml_elements.proofs.sharing.shared_ids.Goals as goal

pub loop-id-preserved : goal.loop-id-preserved
loop-id-preserved c =
    rw c.in_ok-push.ensures.ok
    (copied_more _ _ _ c.in_ok-equal.equal c.id-item.result c.loop-id.invariant c.loop-id-test.true c.id-item.is c.in_ok-equal.ensures)

pub returns : goal.returns
returns c = copied_all _ _ _ c.loop-id.invariant c.loop-id-test.false

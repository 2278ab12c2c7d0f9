use Rattle.nml_elements.proofs.Copied.{staying_more, staying_all}
use Rattle.nml_elements.proofs.windows.staying.Goals as goal

pub loop-entry-preserved : goal.loop-entry-preserved
loop-entry-preserved c = rw c.in_ok-add.ensures (staying_more _ _ _ c.entry-item.result _ c.loop-entry.invariant c.loop-entry-test.true c.entry-item.is)

pub returns : goal.returns
returns c = staying_all _ _ _ _ c.loop-entry.invariant c.loop-entry-test.false

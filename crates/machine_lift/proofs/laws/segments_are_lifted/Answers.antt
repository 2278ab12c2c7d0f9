use Rattle.machine_lift.proofs.Lifted.{lifted}
use Rattle.machine_lift.proofs.laws.segments_are_lifted.Goals as goal

pub returns : goal.returns
returns c = λ T r table b kept built. lifted T r table kept b built

use Rattle.machine_lift.proofs.Lifted.{paired}
use Rattle.machine_lift.proofs.laws.reached_pairs_meet.Goals as goal

pub returns : goal.returns
returns c = λ T r b m. paired T r b m

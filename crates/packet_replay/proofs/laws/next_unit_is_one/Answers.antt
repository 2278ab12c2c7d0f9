use Rattle.packet_replay.proofs.laws.next_unit_is_one.Goals as goal
use Rattle.circuit_spec.proofs.NextUnit.{one_next}

pub returns : goal.returns
returns c T u h v w s t = one_next T u h v w s t

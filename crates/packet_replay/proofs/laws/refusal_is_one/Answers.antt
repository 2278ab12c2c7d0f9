use Rattle.packet_replay.proofs.Refusing.{one_refusal}
use Rattle.packet_replay.proofs.laws.refusal_is_one.Goals as goal

pub returns : goal.returns
returns c T room u h one other x y = one_refusal T room u h one other x y

use Rattle.packet_replay.proofs.Refusing.{refusal_tells}
use Rattle.packet_replay.proofs.laws.refusals_tell_of_steps.Goals as goal

pub returns : goal.returns
returns c T room u h fault r = refusal_tells T room u h fault r

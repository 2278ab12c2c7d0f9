use Rattle.circuit_spec.proofs.KeptWalks.{walk_segment, segment_walk}
use Rattle.circuit_spec.proofs.laws.walks_are_segments.Goals as goal

pub returns : goal.returns
returns c = λ T r hops. (walk_segment T r hops, segment_walk T r hops)

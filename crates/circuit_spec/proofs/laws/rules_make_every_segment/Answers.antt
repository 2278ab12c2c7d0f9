use Rattle.circuit_spec.proofs.Generation.{holds_of_segments}
use Rattle.circuit_spec.proofs.laws.rules_make_every_segment.Goals as goal

pub returns : goal.returns
returns g c = λ T r. holds_of_segments T r g.R.SegmentRelation.holds

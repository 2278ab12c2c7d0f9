use Rattle.walk_derivations.proofs.Ending.{segment_ends}
use Rattle.walk_derivations.proofs.laws.segments_end_in_one_way.Goals as goal

pub returns : goal.returns
returns g c = λ kinds. segment_ends g.S.Stepping.system kinds

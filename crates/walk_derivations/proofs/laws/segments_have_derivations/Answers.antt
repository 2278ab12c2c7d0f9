use Rattle.walk_derivations.proofs.Deriving.{run_derives}
use Rattle.walk_derivations.proofs.laws.segments_have_derivations.Goals as goal

pub returns : goal.returns
returns g c = run_derives g.S.Stepping.system

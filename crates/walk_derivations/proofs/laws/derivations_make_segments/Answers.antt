use Rattle.walk_derivations.proofs.Deriving.{derivation_runs}
use Rattle.walk_derivations.proofs.laws.derivations_make_segments.Goals as goal

pub returns : goal.returns
returns g c = derivation_runs g.S.Stepping.system

use Rattle.walk_derivations.proofs.Ending.{derivations_same}
use Rattle.walk_derivations.proofs.laws.derivations_differ_in_steps.Goals as goal

pub returns : goal.returns
returns g c = λ kinds x y v z d other. derivations_same g.S.Stepping.system kinds d other x y v z

use Rattle.machine_lift.proofs.Weights.{least, least_back, reached, reached_back}
use Rattle.machine_lift.proofs.laws.pairs_are_lifted.Goals as goal

pub returns-clause-reached : goal.returns-clause-reached
returns-clause-reached c = λ T r b lifted root at state place roots here. (reached T r b lifted root at state place roots here, reached_back T r b lifted root at state place roots here)

pub returns-clause-least : goal.returns-clause-least
returns-clause-least c = λ T r b lifted root at state place roots here w. (least T r b lifted root at state place roots here w, least_back T r b lifted root at state place roots here w)

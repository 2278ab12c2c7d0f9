use Rattle.circuit_spec.proofs.CappedWeights.{capped_outcome, exact_outcome, long_outcome}
use Rattle.circuit_spec.proofs.laws.capped_outcomes.Goals as goal

pub returns-clause-capped : goal.returns-clause-capped
returns-clause-capped c = λ T r outcome. (capped_outcome T r outcome, exact_outcome T r outcome)

pub returns-clause-long : goal.returns-clause-long
returns-clause-long c = long_outcome

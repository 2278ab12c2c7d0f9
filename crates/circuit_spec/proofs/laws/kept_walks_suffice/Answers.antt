use Rattle.circuit_spec.proofs.KeptWalks.{kept_outcome, outcome_kept}
use Rattle.circuit_spec.proofs.laws.kept_walks_suffice.Goals as goal

pub returns : goal.returns
returns c = λ T r keeping sound gives outcome. (kept_outcome T r keeping sound gives outcome, outcome_kept T r keeping sound gives outcome)

use Rattle.k_answers.proofs.Told.{told}
use Rattle.k_answers.proofs.laws.first_walks_tell_outcomes.Goals as goal

pub returns : goal.returns
returns c = λ T r keeping sound gives k walks end list outcome is. told T r k keeping sound gives walks end list outcome is

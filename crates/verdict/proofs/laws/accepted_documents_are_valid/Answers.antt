use Rattle.std.proofs.Common.{refl}
use Rattle.verdict.proofs.laws.accepted_documents_are_valid.Goals as goal

pub returns : goal.returns
returns c = λ T a well_formed certificate. (a, record { well_formed = well_formed; spelled = refl }, certificate, refl)

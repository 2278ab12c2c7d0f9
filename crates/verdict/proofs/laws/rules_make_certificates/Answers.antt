use Rattle.verdict.proofs.OneFault.{parts, whole}
use Rattle.verdict.proofs.laws.rules_make_certificates.Goals as goal

pub returns : goal.returns
returns c = λ T a. (whole T a, parts T a)

use Rattle.verdict.proofs.OneFault.{no_certificate}
use Rattle.verdict.proofs.laws.faulty_answers_have_no_certificate.Goals as goal

pub returns : goal.returns
returns c = no_certificate

use Rattle.answer_spec.proofs.Bounded.{bounded}
use Rattle.answer_spec.proofs.certificate.certificates_bound_walks.Goals as goal

pub returns : goal.returns
returns c = bounded

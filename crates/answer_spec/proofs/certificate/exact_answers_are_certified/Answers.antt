use Rattle.answer_spec.proofs.Certified.{certified}
use Rattle.answer_spec.proofs.certificate.exact_answers_are_certified.Goals as goal

pub returns : goal.returns
returns c = certified

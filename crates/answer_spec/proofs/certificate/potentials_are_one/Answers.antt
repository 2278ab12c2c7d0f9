use Rattle.answer_spec.proofs.Unique.{one_list}
use Rattle.answer_spec.proofs.certificate.potentials_are_one.Goals as goal

pub returns : goal.returns
returns c = one_list

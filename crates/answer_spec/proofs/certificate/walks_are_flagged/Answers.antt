use Rattle.answer_spec.proofs.Carried.{walk_flagged}
use Rattle.answer_spec.proofs.certificate.walks_are_flagged.Goals as goal

pub returns : goal.returns
returns c = walk_flagged

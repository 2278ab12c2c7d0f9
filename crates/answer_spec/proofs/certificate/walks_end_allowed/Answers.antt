use Rattle.answer_spec.proofs.Carried.{arrived, ends_allowed}
use Rattle.answer_spec.proofs.certificate.walks_end_allowed.Goals as goal

pub returns : goal.returns
returns c = λ T r class h hops known first. (ends_allowed T r class h hops first, arrived T r class h hops known first)

use Rattle.verdict.proofs.OneFault.{first_of_all, whole_of_parts}
use Rattle.verdict.proofs.laws.parts_make_the_whole.Goals as goal

pub returns : goal.returns
returns c = record { faults = first_of_all; certificates = whole_of_parts }

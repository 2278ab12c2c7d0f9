use Rattle.verdict.proofs.OneFault.{one_fault}
use Rattle.verdict.proofs.laws.fault_is_one.Goals as goal

pub returns : goal.returns
returns c = one_fault

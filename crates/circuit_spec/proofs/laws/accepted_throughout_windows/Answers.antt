use Rattle.circuit_spec.proofs.Windows.{accepted_during}
use Rattle.circuit_spec.proofs.laws.accepted_throughout_windows.Goals as goal

pub returns : goal.returns
returns c = accepted_during

use Rattle.k_cheapest.proofs.OneKind.{have_kinds}
use Rattle.k_cheapest.proofs.laws.machine_steps_have_kinds.Goals as goal

pub returns : goal.returns
returns c = λ steps. have_kinds steps

use Rattle.marked_machine.proofs.Running.{are_in}
use Rattle.marked_machine.proofs.laws.marked_runs_are_in_product.Goals as goal

pub returns : goal.returns
returns c = λ m marks p is. are_in m marks p is

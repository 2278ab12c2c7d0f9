use Rattle.marked_machine.proofs.Running.{are_marked}
use Rattle.marked_machine.proofs.laws.product_runs_are_marked.Goals as goal

pub returns : goal.returns
returns c = λ m marks p is. are_marked m marks p is

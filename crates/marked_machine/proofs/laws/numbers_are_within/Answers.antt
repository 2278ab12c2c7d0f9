use Rattle.marked_machine.proofs.Within.{place_within}
use Rattle.marked_machine.proofs.laws.numbers_are_within.Goals as goal

pub returns : goal.returns
returns c = λ count base mark bases p q. place_within count base mark bases p q

use Rattle.potential_lift.proofs.Listed.{within}
use Rattle.potential_lift.proofs.laws.pairs_are_within.Goals as goal

pub returns : goal.returns
returns c = λ T r b pots m are. within T r b m pots are

use Rattle.k_answers.proofs.Told.{formed}
use Rattle.k_answers.proofs.laws.listed_weights_are_known.Goals as goal

pub returns : goal.returns
returns c = λ T r k a is. formed T r k a is

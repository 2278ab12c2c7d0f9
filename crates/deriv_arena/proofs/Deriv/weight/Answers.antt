use Rattle.deriv_arena.proofs.Weights.{form_weight}
use Rattle.deriv_arena.proofs.Deriv.weight.Goals as goal

pub returns-clause-unfolded : goal.returns-clause-unfolded
returns-clause-unfolded c steps o = form_weight steps c.args.self.now.first c.args.self.now.last c.args.self.now.weight c.args.self.now.form o

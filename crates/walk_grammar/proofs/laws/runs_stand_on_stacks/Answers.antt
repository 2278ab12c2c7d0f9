use Rattle.walk_grammar.proofs.Found.{run_under}
use Rattle.walk_grammar.proofs.laws.runs_stand_on_stacks.Goals as goal

pub returns : goal.returns
returns g c = λ steps from stack to left below run. run_under g.S.Stepping.system steps from stack to left below run

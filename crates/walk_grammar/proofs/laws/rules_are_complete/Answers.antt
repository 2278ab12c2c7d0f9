use Rattle.walk_grammar.proofs.Grammar.{rules_complete}
use Rattle.walk_grammar.proofs.laws.rules_are_complete.Goals as goal

pub returns : goal.returns
returns g c = λ rules root steps to is. rules_complete g.R.Stepping.system g.R.Stepping.starts g.R.Relation.holds rules root steps to is

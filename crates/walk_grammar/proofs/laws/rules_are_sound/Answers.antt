use Rattle.walk_grammar.proofs.Found.{found_rules}
use Rattle.walk_grammar.proofs.laws.rules_are_sound.Goals as goal

pub returns : goal.returns
returns g c = found_rules g.S.Stepping.system g.S.Stepping.starts

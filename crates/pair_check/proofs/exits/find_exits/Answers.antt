use Rattle.std.proofs.Common.{sym, ◌∙◌}
use Rattle.pair_check.specs.Exits.{exits_at}
use Rattle.pair_check.proofs.Leaving.{found_more, some_there}
use Rattle.pair_check.proofs.exits.find_exits.Goals as goal

pub returns-then-contains_key-clause-here : goal.returns-then-contains_key-clause-here
returns-then-contains_key-clause-here c = some_there (exits_at c.args.found.now.entries c.args.entered.0 c.args.frame.0) (sym c.contains_key.ensures ∙ c.if-contains_key.true)

pub returns-in-Ok-clause-found : goal.returns-in-Ok-clause-found
returns-in-Ok-clause-found c =
    found_more c.args.found.now.entries c.insert.new.self.entries c.args.entered.0 c.args.frame.0 c.in_ok-exits.exits c.in-Ok.ensures.updates.0
    c.args.machine.now.steps c.args.pots.now c.requires.found c.in_ok-exits.ensures

use Rattle.std.proofs.Common.{rules}
use Rattle.pair_check.specs.Overtaken.{IsOvertaken}
use Rattle.pair_check.proofs.Overtaking.{overtaken_tested}
use Rattle.pair_check.proofs.nesting.nests_once.Goals as goal

pub returns-then-overtake-clause-nests : goal.returns-then-overtake-clause-nests
returns-then-overtake-clause-nests c =
    let over : IsOvertaken c.args.machine.now.steps c.args.noted.now.pots.now c.args.place c.args.pair c.step-step.result = search rules in
    overtaken_tested c.args.machine.now.steps c.args.noted.now.pots.now c.args.place c.args.pair c.step-step.result over c.requires.before
    c.args.push c.step-step.ensures.found

use Rattle.finder_core.proofs.Answered.{exact_certified, exact_in_order}
use Rattle.finder_core.proofs.solving.solve_known.Goals as goal

pub know_formed-requires : goal.know_formed-requires
know_formed-requires c = exact_in_order c.args.inventory.now c.in_ok-answer.answer c.in_ok-answer.ensures.exact

pub returns-clause-certified : goal.returns-clause-certified
returns-clause-certified c = exact_certified c.args.inventory.now c.args.request.now c.in_ok-built.built c.in_ok-answer.answer c.requires.sound c.in_ok-built.ensures c.in_ok-answer.ensures.request c.in_ok-answer.ensures.exact

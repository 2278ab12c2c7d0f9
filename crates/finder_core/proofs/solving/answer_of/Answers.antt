use Rattle.potential_lift.proofs.Listed.{within}
use Rattle.finder_core.proofs.Answered.{exact_answer}
use Rattle.finder_core.proofs.solving.answer_of.Goals as goal

pub potentials_of-requires : goal.potentials_of-requires
potentials_of-requires c = within c.args.inventory.now c.args.request.now c.args.built.now c.requires.built c.args.searched.potentials c.requires.potentials

pub returns-clause-exact : goal.returns-clause-exact
returns-clause-exact c = exact_answer c.args.inventory.now c.args.request.now c.in_ok-request.request c.args.searched.told.outcome c.args.searched.told.walk.hops c.args.searched.told.walk.flags c.in_ok-rules.rules c.in_ok-potentials.potentials
    c.in_ok-request.ensures c.requires.known c.requires.told c.in_ok-rules.ensures.rules (c.in_ok-potentials.ensures.potentials c.args.inventory.now c.args.request.now c.requires.built c.requires.potentials)

use Rattle.table_replay.proofs.Answering.{answers_exactly, answers_plain}
use Rattle.table_replay.proofs.forwarding.forward.Goals as goal

pub returns-clause-exact : goal.returns-clause-exact
returns-clause-exact c = answers_exactly c.args.inventory.now c.args.rules.now c.args.start.now c.args.target.now c.carry.result c.carry.ensures.ok c.carry.ensures.err

pub returns-clause-plain : goal.returns-clause-plain
returns-clause-plain c = answers_plain c.args.inventory.now c.args.rules.now c.args.start.now c.args.target.now c.carry.result c.carry.ensures.ok c.carry.ensures.err

use Rattle.table_replay.proofs.Answering.{arrives, goes_on, leaves, stops}
use Rattle.table_replay.proofs.forwarding.carry.Goals as goal

pub loop-way-preserved : goal.loop-way-preserved
loop-way-preserved c = record {
  ready = c.in-Ok.ensures.ready;
  continues = goes_on c.args.inventory.now c.args.rules.now c.args.start.now c.args.target.now c.loop-way.way.met.keys c.turn.new.self.met.keys c.loop-way.way.replay.unit c.turn.new.self.replay.unit c.loop-way.way.hops c.turn.new.self.hops
      c.loop-way.invariant.continues c.in-Ok.ensures.takes;
}

pub returns-in-Err-clause-err : goal.returns-in-Err-clause-err
returns-in-Err-clause-err c =
    stops c.args.inventory.now c.args.rules.now c.args.start.now c.args.target.now c.loop-way.way.met.keys c.loop-way.way.replay.unit c.loop-way.way.hops c.in-Err.fault c.loop-way.invariant.continues c.in-Err.ensures.stops

pub returns-clause-ok : goal.returns-clause-ok
returns-clause-ok c =
    arrives c.args.inventory.now c.args.rules.now c.args.start.now c.args.target.now c.loop-way.way.met.keys c.loop-way.way.replay.unit c.loop-way.way.hops c.arrive.result c.loop-way.invariant.continues (c.is_at.ensures.0 c.loop-way-test.false) c.arrive.ensures

pub returns-clause-err : goal.returns-clause-err
returns-clause-err c =
    leaves c.args.inventory.now c.args.rules.now c.args.start.now c.args.target.now c.loop-way.way.met.keys c.loop-way.way.replay.unit c.loop-way.way.hops c.arrive.result c.loop-way.invariant.continues (c.is_at.ensures.0 c.loop-way-test.false) c.arrive.ensures

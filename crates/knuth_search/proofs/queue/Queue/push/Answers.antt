use Rattle.std.proofs.Common.{arith, ◌<◌, ap, length, subst}
use Rattle.knuth_search.specs.Offered.{Puts}
use Rattle.knuth_search.specs.Tables.{pot_of}
use Rattle.knuth_search.proofs.Lanes.{push_kept, push_offers}
use Rattle.knuth_search.proofs.queue.Queue.push.Goals as goal

pub invariant_of-self-2 : goal.invariant_of-self-2
invariant_of-self-2 c =
    let below : c.lane-number.result < length c.self.inside.lanes.items = omega (arith, c.lane-number.ensures, ap (λ p. p.lanes) c.put.ensures.plan, c.self.invariant.rooms) in
    push_kept (record { machine = c.self.inside.machine.now; starts = c.self.inside.starts.now }) c.self.inside.offered c.self.inside.lanes.items c.self.invariant
    c.lane-number.result below c.index_mut-lane.result.now c.push.new.self c.index_mut-lane.ensures.value c.args.self.now c.self.view_is c.args.candidate c.in_ok-push.ensures.waiting c.put.new.self c.put.ensures.plan c.put.ensures.states c.requires.kept

pub returns-clause-offers : goal.returns-clause-offers
returns-clause-offers c =
    let below : c.lane-number.result < length c.self.inside.lanes.items = omega (arith, c.lane-number.ensures, ap (λ p. p.lanes) c.put.ensures.plan, c.self.invariant.rooms) in
    let puts : Puts c.self.inside.offered (pot_of c.args.candidate) c.put.new.self = subst (λ p. Puts c.self.inside.offered p c.put.new.self) c.pot.ensures c.in_ok-put.ensures.puts in
    push_offers (record { machine = c.self.inside.machine.now; starts = c.self.inside.starts.now }) c.self.inside.offered c.self.inside.lanes.items c.self.invariant
    c.lane-number.result below c.index_mut-lane.result.now c.push.new.self c.index_mut-lane.ensures.value c.args.self.now c.self.view_is c.args.candidate c.in_ok-push.ensures.waiting c.put.new.self puts c.requires.lighter

use Rattle.std.proofs.Common.{subst, ◌<◌, length}
use Rattle.knuth_search.proofs.Lanes.{pop_lanes, pop_waits, pop_kept}
use Rattle.knuth_search.proofs.queue.Queue.pop.Goals as goal

pub invariant_of-self-2 : goal.invariant_of-self-2
invariant_of-self-2 c =
    let below : c.in-Some.number < length c.self.inside.lanes.items = subst (λ l. c.in-Some.number < length l) c.as_slice.ensures.value c.in-Some.ensures.some.0 in
    pop_lanes (record { machine = c.self.inside.machine.now; starts = c.self.inside.starts.now }) c.self.inside.offered c.self.inside.lanes.items c.self.invariant
    c.in-Some.number below c.index_mut.result.now c.pop.new.self c.index_mut.ensures.value c.args.self.now c.self.view_is c.in-Some-pop.next c.in-Some-pop.ensures.some

pub returns-clause-some : goal.returns-clause-some
returns-clause-some c =
    let below : c.in-Some.number < length c.self.inside.lanes.items = subst (λ l. c.in-Some.number < length l) c.as_slice.ensures.value c.in-Some.ensures.some.0 in
    pop_waits (record { machine = c.self.inside.machine.now; starts = c.self.inside.starts.now }) c.self.inside.offered c.self.inside.lanes.items c.self.invariant
    c.in-Some.number below c.index_mut.result.now c.pop.new.self c.index_mut.ensures.value c.args.self.now c.self.view_is c.in-Some-pop.next c.in-Some-pop.ensures.some

pub returns-clause-kept : goal.returns-clause-kept
returns-clause-kept c =
    let below : c.in-Some.number < length c.self.inside.lanes.items = subst (λ l. c.in-Some.number < length l) c.as_slice.ensures.value c.in-Some.ensures.some.0 in
    pop_kept (record { machine = c.self.inside.machine.now; starts = c.self.inside.starts.now }) c.self.inside.offered c.self.inside.lanes.items c.self.invariant
    c.in-Some.number below c.index_mut.result.now c.pop.new.self c.index_mut.ensures.value c.args.self.now c.self.view_is c.in-Some-pop.next c.in-Some-pop.ensures.some

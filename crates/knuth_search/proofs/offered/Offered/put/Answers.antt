use Rattle.std.proofs.Common.{◌<◌, arith, length}
use Rattle.knuth_search.proofs.Keys.{puts_mapped}
use Rattle.knuth_search.proofs.offered.Offered.put.Goals as goal

pub returns-clause-puts : goal.returns-clause-puts
returns-clause-puts c =
    let below : c.lane-lane.result < length c.self.inside.maps.items = omega (arith, c.lane-lane.ensures.below, c.self.invariant) in
    puts_mapped (λ m. m.entries) c.self.inside.plan c.self.inside.request.items c.self.inside.maps.items c.args.self.now c.self.view_is c.args.pot c.in-Entry.entry c.in-Entry.is
    c.lane-lane.result c.lane-lane.ensures.value below c.index_mut-weights.result.now c.insert.new.self c.index_mut-weights.ensures.value c.in-Ok.ensures.updates.1 c.in-Ok.ensures.updates.2

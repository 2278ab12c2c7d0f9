use Rattle.std.proofs.Common.{refl, sym}
use Rattle.deriv_arena.proofs.Examples.{nest_at}
use Rattle.route_unfold.proofs.tests.tower.Goals as goal

pub nest-requires-clause-encloses : goal.nest-requires-clause-encloses
nest-requires-clause-encloses c = nest_at c.args.machine.now.steps c.in_ok-prev.prev.now c.levels.made.now 0 1 (record { 0 = 0 }) (record { 0 = 0 }) (record { 0 = 0 }) (record { 0 = 0 }) (record { 0 = 0 }) 0 0
    (rw c.requires refl) (sym c.in_ok-prev.ensures.rests.last) (sym c.levels.invariant.first)
    (rw c.requires refl) (sym c.levels.invariant.last)

use Rattle.std.proofs.Common.{refl, sym}
use Rattle.deriv_arena.proofs.Examples.{flat_at}
use Rattle.route_unfold.proofs.tests.a_cost_of_2_to_the_64_is_past.Goals as goal

pub flat-requires-clause-keeps : goal.flat-requires-clause-keeps
flat-requires-clause-keeps g c = flat_at c.in_ok-machine.machine.steps 0 (record { 0 = 0 }) (record { 0 = 0 }) c.in_ok-root.field-0.now.last 18446744073709551615
    (rw c.in_ok-machine.ensures refl) (sym c.in_ok-root.ensures.rests.last)

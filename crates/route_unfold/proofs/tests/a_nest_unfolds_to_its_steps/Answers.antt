use Rattle.std.proofs.Common.{refl, sym, ◌∙◌}
use Rattle.deriv_arena.proofs.Examples.{flat_at, nest_at, last_is}
use Rattle.route_unfold.proofs.tests.a_nest_unfolds_to_its_steps.Goals as goal

pub flat-requires-clause-keeps : goal.flat-requires-clause-keeps
flat-requires-clause-keeps g c = flat_at c.in_ok-machine.machine.steps 1 (record { 0 = 2 }) (record { 0 = 3 }) c.in_ok-root.field-0.now.last 1
    (rw c.in_ok-machine.ensures refl) (sym c.in_ok-root.ensures.rests.last)

pub nest-requires-clause-encloses : goal.nest-requires-clause-encloses
nest-requires-clause-encloses g c = nest_at c.in_ok-machine.machine.steps c.in_ok-prev.prev.now c.in_ok-inner.inner.now 0 2 (record { 0 = 0 }) (record { 0 = 2 }) (record { 0 = 3 }) (record { 0 = 1 }) (record { 0 = 0 }) 1 1
    (rw c.in_ok-machine.ensures refl) (sym c.in_ok-prev.ensures.rests.last) (sym c.in_ok-root.ensures.rests.first ∙ sym c.in_ok-inner.ensures.extends.first)
    (rw c.in_ok-machine.ensures refl) (last_is c.in_ok-machine.machine.steps 1 (record { 0 = 2 }) (record { 0 = 3 }) c.in_ok-root.field-0.now.last c.in_ok-inner.inner.now.last 1 (rw c.in_ok-machine.ensures refl) c.in_ok-inner.ensures.extends.keeps)

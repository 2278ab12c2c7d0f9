use Rattle.std.proofs.Common.{◌≡◌}
use Rattle.machine_build.specs.Adding.{Adds, Between}
use Rattle.machine_build.proofs.adding.add_far_port.Given as goal

abbrev pub invariant-loop-state : goal.invariant-loop-state
invariant-loop-state l = Adds
    (Between l.initial.state l.state (λ state w. (w.element ≡ l.crossing.element) × (w.near ≡ l.crossing.near) × (w.far ≡ record { port = l.port; state = record { 0 = state } })))
    (λ m. m.effect ≡ l.crossing.effect) l.fn.moves l.moves

use Rattle.std.proofs.Common.{◌≡◌, ◌-◌, ◌≤◌}
use Rattle.machine_build.specs.Adding.{Adds, Between}
use Rattle.machine_build.specs.Frames.{GoesOn}
use Rattle.machine_build.specs.Ways.{IsDone, IsFrom}
use Rattle.machine_build.proofs.adding.add_near_port.Given as goal

abbrev pub invariant-loop-state : goal.invariant-loop-state
invariant-loop-state l = (l.span.first ≤ l.state) × GoesOn l.fn.frames.keys l.frames.keys
    × Adds (Between l.span.first l.state (IsFrom l.inventory l.places.places l.number l.port)) (IsDone l.inventory l.places.places l.frames.keys) l.fn.moves l.moves

abbrev pub decreases-loop-state : goal.decreases-loop-state
decreases-loop-state l = l.span.end - l.state

use Rattle.std.proofs.Common.{◌≡◌}
use Rattle.std.specs.Prelude.{slice_get, Some}
use Rattle.machine_build.specs.Adding.{Adds, Between}
use Rattle.machine_build.specs.Frames.{GoesOn}
use Rattle.machine_build.specs.Ways.{IsDone, IsWay}
use Rattle.machine_build.proofs.adding.add_element.Given as goal

abbrev pub invariant-loop-place : goal.invariant-loop-place
invariant-loop-place l = GoesOn l.fn.frames.keys l.frames.keys
    × Adds (Between 0 l.place (λ j w. IsWay l.inventory l.places.places w × (w.element ≡ l.number) × (slice_get l.ports j ≡ Some w.near.port)))
    (IsDone l.inventory l.places.places l.frames.keys) l.fn.moves l.moves

use Rattle.std.proofs.Common.{◌≡◌}
use Rattle.machine_build.specs.Adding.{Adds, Between}
use Rattle.machine_build.specs.Ways.{GoesFrom}
use Rattle.std.specs.Prelude.{slice_get, Some}
use Rattle.machine_build.proofs.adding.add_far_side.Given as goal

abbrev pub invariant-loop-place : goal.invariant-loop-place
invariant-loop-place l = Adds (Between 0 l.place (λ j w. GoesFrom l.inventory l.places.places l.crossing w × (slice_get l.ports j ≡ Some w.far.port))) (λ m. m.effect ≡ l.crossing.effect) l.fn.moves l.moves

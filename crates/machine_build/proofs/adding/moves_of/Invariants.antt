use Rattle.std.proofs.Common.{◌≡◌, []}
use Rattle.machine_build.specs.Adding.{Adds, Between}
use Rattle.machine_build.specs.Ways.{IsDone, IsWay}
use Rattle.machine_build.proofs.adding.moves_of.Given as goal

abbrev pub invariant-loop-number : goal.invariant-loop-number
invariant-loop-number l = Adds (Between 0 l.number (λ number w. IsWay l.inventory l.places.places w × (w.element ≡ number))) (IsDone l.inventory l.places.places l.frames.keys) [] l.moves

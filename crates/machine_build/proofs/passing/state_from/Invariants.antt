use Rattle.std.proofs.Common.{◌-◌}
use Rattle.machine_build.specs.Passing.{AreBounds}
use Rattle.machine_build.proofs.passing.state_from.Given as goal

abbrev pub invariant-loop-low : goal.invariant-loop-low
invariant-loop-low l = AreBounds l.places.places l.label l.first l.end l.low l.high

abbrev pub decreases-loop-low : goal.decreases-loop-low
decreases-loop-low l = l.high - l.low

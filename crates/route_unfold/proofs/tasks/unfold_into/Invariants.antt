use Rattle.std.proofs.Common.{◌≡◌, ◌++◌}
use Rattle.deriv_arena.specs.Derivation.{unfolding_of}
use Rattle.route_unfold.specs.Tasks.{steps_of_tasks, work_of}
use Rattle.route_unfold.proofs.tasks.unfold_into.Given as goal

abbrev pub invariant-loop-task : goal.invariant-loop-task
invariant-loop-task l = steps_of_tasks l.tasks.items ++ l.out ≡ unfolding_of l.deriv ++ l.fn.out

abbrev pub decreases-loop-task : goal.decreases-loop-task
decreases-loop-task l = work_of l.tasks.items

-- What is left to do while a derivation is unfolded from its end.
use Rattle.std.specs.Prelude.{◌≡◌, ℕ, ◌+◌, List, [], ◌∷◌, ◌++◌}
use Rattle.deriv_arena.specs.declared.DerivForm.{DerivForm}
use Rattle.deriv_arena.specs.declared.DerivForm.TheVariants.{Root, Flat', Nest'}
use Rattle.deriv_arena.specs.Derivation.{form_of, unfolding_of}
use Rattle.route_unfold.specs.declared.tasks.Task.{Task}
use Rattle.route_unfold.specs.declared.tasks.Task.TheVariants.{Walk, Step}

-- the steps that a task stands for, and a stack of tasks, whose top comes last
abbrev pub steps_of_task : Task → List ℕ
steps_of_task (Walk d) = unfolding_of d.now
steps_of_task (Step s) = s.0 ∷ []

abbrev pub steps_of_tasks : List Task → List ℕ
steps_of_tasks [] = []
steps_of_tasks (t ∷ ts) = steps_of_task t ++ steps_of_tasks ts

-- how many tasks it takes, itself and all that come of it
abbrev pub work_of_form : DerivForm → ℕ
work_of_form Root = 1
work_of_form (Flat' p first last weight prev step) = work_of_form prev + 1
work_of_form (Nest' p first last weight prev push q first' last' weight' inner pop) = work_of_form prev + work_of_form inner + 2

abbrev pub work_of_task : Task → ℕ
work_of_task (Walk d) = work_of_form (form_of d.now)
work_of_task (Step s) = 1

abbrev pub work_of : List Task → ℕ
work_of [] = 0
work_of (t ∷ ts) = work_of_task t + work_of ts

-- the task was done: what it stands for is on the stack or in front of the steps that are out, and there is less to do
pub record Does (task : Task) (tasks : List Task) (out : List ℕ) (tasks' : List Task) (out' : List ℕ) : Type 0 where
  pub steps : steps_of_tasks tasks' ++ out' ≡ steps_of_tasks tasks ++ (steps_of_task task ++ out)
  pub work : work_of tasks' + 1 ≡ work_of tasks + work_of_task task

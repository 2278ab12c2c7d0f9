-- What stands before the given steps of a set of walks, and what it weighs.
use Rattle.std.specs.Prelude.{◌≡◌, ℕ, ◌<◌, List, length, [], ◌∷◌, ◌++◌}
use Rattle.ml_base.specs.declared.numbers.StateNo.{StateNo}
use Rattle.ml_base.specs.declared.weight.Weight.{Weight}
use Rattle.ml_base.specs.Weight.{cap, capped_total}
use Rattle.adapt_machine.specs.declared.MachineStep.{MachineStep}
use Rattle.segment_grammar.specs.Reached.{IsSegmentUnder, IsLeast}
use Rattle.deriv_arena.specs.Derivation.{step_weight}
use Rattle.k_cheapest.specs.declared.todo.Todo.{Todo}
use Rattle.k_cheapest.specs.declared.todo.TodoForm.{TodoForm}
use Rattle.k_cheapest.specs.declared.todo.TodoForm.TheVariants.{Done, Goal', Step'}

module _ (steps : List MachineStep) (starts : List StateNo) where
  -- the steps are one choice of what stands there
  abbrev pub Stands : TodoForm → List ℕ → Type 0
  Stands Done us = us ≡ []
  Stands (Goal' p w rest root state) us =
      (before : List ℕ) × (segment : List ℕ) × Stands rest before × IsSegmentUnder steps starts root segment state × (us ≡ before ++ segment)
  Stands (Step' p w rest step) us = (before : List ℕ) × Stands rest before × (us ≡ before ++ step.0 ∷ [])

  -- the weight is the sum of those of the steps and the least ones of the segments, and so is that of each rest
  abbrev pub Weighs : Weight → TodoForm → Type 0
  Weighs w Done = w ≡ cap (record { cost = 0; hops = 0 })
  Weighs w (Goal' p v rest root state) = Weighs v rest × ((least : Weight) × IsLeast steps starts root state least × (w ≡ capped_total v least))
  Weighs w (Step' p v rest step) = Weighs v rest × (step.0 < length steps) × (w ≡ capped_total v (step_weight steps step.0))

  abbrev pub IsWeighed : Todo → Type 0
  IsWeighed t = Weighs t.weight t.form

-- The given steps of a set of walks.
use Rattle.std.specs.Prelude.{◌≡◌, ℕ, List, [], ◌∷◌}
use Rattle.adapt_machine.specs.declared.MachineStep.{MachineStep}
use Rattle.adapt_machine.specs.Walks.{weight_of}
use Rattle.k_cheapest.specs.declared.given.Given.{Given}
use Rattle.k_cheapest.specs.declared.given.Tail.{Tail}
use Rattle.k_cheapest.specs.declared.given.Tail.TheVariants.{End, Step'}

-- the steps, in order
abbrev pub steps_of : Tail → List ℕ
steps_of End = []
steps_of (Step' p rest step) = step.0 ∷ steps_of rest

abbrev pub given_steps : Given → List ℕ
given_steps g = steps_of g.tail.now

-- the weight is that of the steps
abbrev pub IsGiven : List MachineStep → Given → Type 0
IsGiven steps g = g.weight ≡ weight_of steps (given_steps g)

-- What a derivation stands for, and when it is over a machine.
use Rattle.std.specs.Prelude.{◌≡◌, ℕ, List, [], ◌∷◌, ◌++◌}
use Rattle.ml_base.specs.declared.numbers.StateNo.{StateNo}
use Rattle.ml_base.specs.declared.numbers.FrameNo.{FrameNo}
use Rattle.ml_base.specs.declared.weight.Weight.{Weight}
use Rattle.ml_base.specs.Weight.{cap, capped_total}
use Rattle.walk_grammar.specs.System.{Run}
use Rattle.adapt_machine.specs.declared.MachineStep.{MachineStep}
use Rattle.adapt_machine.specs.Walks.{system_of}
use Rattle.deriv_arena.specs.declared.Deriv.{Deriv}
use Rattle.deriv_arena.specs.declared.DerivForm.{DerivForm}
use Rattle.deriv_arena.specs.declared.DerivForm.TheVariants.{Root, Flat', Nest'}

-- the state that a derivation begins at, the one that it ends at, the weight that is kept of it, and how it is made
abbrev pub first_of : Deriv → StateNo
first_of d = d.first

abbrev pub last_of : Deriv → StateNo
last_of d = d.last

abbrev pub kept_weight : Deriv → Weight
kept_weight d = d.weight

abbrev pub form_of : Deriv → DerivForm
form_of d = d.form

-- the steps that a form stands for, in order; a part comes with its pointer, ends and weight
abbrev pub steps_of : DerivForm → List ℕ
steps_of Root = []
steps_of (Flat' p first last weight prev step) = steps_of prev ++ step.0 ∷ []
steps_of (Nest' p first last weight prev push q first' last' weight' inner pop) = steps_of prev ++ push.0 ∷ (steps_of inner ++ pop.0 ∷ [])

abbrev pub unfolding_of : Deriv → List ℕ
unfolding_of d = steps_of (form_of d)

-- the weight of a step: its cost and one hop
abbrev pub step_weight : List MachineStep → ℕ → Weight
step_weight steps k = cap (record { cost = (system_of steps).cost k; hops = 1 })

-- `d` is at the state, with no weight
pub record Rests (d : Deriv) (state : StateNo) : Type 0 where
  pub first : first_of d ≡ state
  pub last : last_of d ≡ state
  pub weight : kept_weight d ≡ cap (record { cost = 0; hops = 0 })

-- `d` has the ends and the weight of `prev` with flat step `k` after it
pub record Extends (steps : List MachineStep) (prev : Deriv) (k : ℕ) (d : Deriv) : Type 0 where
  pub keeps : (system_of steps).Keeps (last_of prev) k (last_of d)
  pub first : first_of d ≡ first_of prev
  pub weight : kept_weight d ≡ capped_total (kept_weight prev) (step_weight steps k)

-- the push leaves the one part and enters the other, which the pop of the same frame leaves for `z`
pub record Encloses (steps : List MachineStep) (prev : Deriv) (push : ℕ) (inner : Deriv) (pop : ℕ) (z : StateNo) : Type 0 where
  pub frame : FrameNo
  pub pushes : (system_of steps).Pushes (last_of prev) push frame (first_of inner)
  pub pops : (system_of steps).Pops (last_of inner) pop frame z

-- `d` has the ends and the weight of `prev` with a push, `inner` and a pop after it
pub record Nests (steps : List MachineStep) (prev : Deriv) (push : ℕ) (inner : Deriv) (pop : ℕ) (d : Deriv) : Type 0 where
  pub encloses : Encloses steps prev push inner pop (last_of d)
  pub first : first_of d ≡ first_of prev
  pub weight : kept_weight d ≡ capped_total (capped_total (capped_total (kept_weight prev) (step_weight steps push)) (kept_weight inner)) (step_weight steps pop)

abbrev deriv_of : StateNo → StateNo → Weight → DerivForm → Deriv
deriv_of first last weight form = record { first = first; last = last; weight = weight; form = form }

-- these ends, this weight and this form are those of a derivation over the machine with these steps: its parts are over it,
-- and it rests, extends or nests as its form says
abbrev pub IsFormOver : List MachineStep → StateNo → StateNo → Weight → DerivForm → Type 0
IsFormOver steps first last weight Root = Rests (deriv_of first last weight Root) first
IsFormOver steps first last weight (Flat' p f l w prev step) =
    IsFormOver steps f l w prev
    × Extends steps (deriv_of f l w prev) step.0 (deriv_of first last weight (Flat' p f l w prev step))
IsFormOver steps first last weight (Nest' p f l w prev push q f' l' w' inner pop) =
    IsFormOver steps f l w prev
    × IsFormOver steps f' l' w' inner
    × Nests steps (deriv_of f l w prev) push.0 (deriv_of f' l' w' inner) pop.0 (deriv_of first last weight (Nest' p f l w prev push q f' l' w' inner pop))

abbrev pub IsOver : List MachineStep → Deriv → Type 0
IsOver steps d = IsFormOver steps (first_of d) (last_of d) (kept_weight d) (form_of d)

-- the unfolding runs between the ends, from the empty stack to the empty stack
abbrev pub IsSegment : List MachineStep → Deriv → Type 0
IsSegment steps d = Run (system_of steps) (first_of d) [] (unfolding_of d) (last_of d) []

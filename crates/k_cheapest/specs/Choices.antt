-- Sets of walks whose next segment from the end is to be chosen, by how that segment ends.
use Rattle.std.specs.Prelude.{◌≡◌, ◌⊎◌, ℕ, List, [], ◌∷◌, ◌++◌}
use Rattle.std.specs.List.{Contains}
use Rattle.ml_base.specs.declared.numbers.StateNo.{StateNo}
use Rattle.ml_base.specs.declared.numbers.FrameNo.{FrameNo}
use Rattle.ml_base.specs.declared.numbers.Root.{Root}
use Rattle.ml_base.specs.declared.numbers.Root.TheVariants.{Request, Entry}
use Rattle.adapt_machine.specs.declared.MachineStep.{MachineStep}
use Rattle.adapt_machine.specs.Walks.{system_of}
use Rattle.segment_grammar.specs.Reached.{IsSegmentUnder, IsReached}
use Rattle.k_cheapest.specs.declared.choice.Choice.{Choice}
use Rattle.k_cheapest.specs.Todos.{Stands, IsWeighed}
use Rattle.k_cheapest.specs.Givens.{given_steps, IsGiven}

-- a segment without steps may end here
abbrev pub BeginsAt : List StateNo → Root → StateNo → Type 0
BeginsAt starts Request x = Contains starts x
BeginsAt starts (Entry e) x = e ≡ x

module _ (steps : List MachineStep) (starts : List StateNo) where
  -- the choice has its weights, and there is a segment
  pub record IsChoice (c : Choice) : Type 0 where
    pub rest : IsWeighed steps starts c.rest.now
    pub given : IsGiven steps c.given
    pub reached : IsReached steps starts c.root c.state

  -- the steps have this segment where one is to be chosen
  abbrev pub Chooses : Choice → List ℕ → List ℕ → Type 0
  Chooses c segment ks = (before : List ℕ) × Stands steps starts c.rest.now.form before × (ks ≡ (before ++ segment) ++ given_steps c.given)

  -- any segment
  abbrev pub ChoosesAny : Choice → List ℕ → Type 0
  ChoosesAny c ks = (segment : List ℕ) × IsSegmentUnder steps starts c.root segment c.state × Chooses c segment ks

  -- the empty segment
  abbrev pub ChoosesNone : Choice → List ℕ → Type 0
  ChoosesNone c ks = IsSegmentUnder steps starts c.root [] c.state × Chooses c [] ks

  -- a segment that ends with the flat step
  abbrev pub ChoosesFlat : Choice → ℕ → List ℕ → Type 0
  ChoosesFlat c k ks =
      (us : List ℕ) × (x : StateNo) × IsSegmentUnder steps starts c.root us x × (system_of steps).Keeps x k c.state × Chooses c (us ++ k ∷ []) ks

  -- a segment that ends with a nest between the steps
  abbrev pub ChoosesNest : Choice → ℕ → ℕ → List ℕ → Type 0
  ChoosesNest c k l ks =
      (us : List ℕ) × (vs : List ℕ) × (x : StateNo) × (e : StateNo) × (y : StateNo) × (f : FrameNo)
      × IsSegmentUnder steps starts c.root us x × (system_of steps).Pushes x k f e
      × IsSegmentUnder steps starts (Entry e) vs y × (system_of steps).Pops y l f c.state
      × Chooses c (us ++ k ∷ (vs ++ l ∷ [])) ks

  -- a segment that ends with the step: alone, or round a nest
  abbrev pub ChoosesStep : Choice → ℕ → List ℕ → Type 0
  ChoosesStep c l ks = ChoosesFlat c l ks ⊎ ((k : ℕ) × ChoosesNest c k l ks)

  -- a segment that has a last step
  abbrev pub ChoosesSome : Choice → List ℕ → Type 0
  ChoosesSome c ks = (l : ℕ) × ChoosesStep c l ks

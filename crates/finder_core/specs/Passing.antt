-- The states that steps pass, and the flags of steps by these states.
--   state_left, state_entered    the states at the two ends of a step
--   visits_from                  the states as numbered visits
--   flags_of                     for each step the first earlier state that it comes back to
--   AddsFlag                     one flag more, and one visit more
use Rattle.std.specs.Prelude.{◌≡◌, ℕ, ◌+◌, ◌<◌, List, [], ◌∷◌, ◌++◌, Option, None, length, map, nat_eq, option_map, position, slice_get, slice_index_or, unwrap_or}
use Rattle.adapt_machine.specs.declared.MachineStep.{MachineStep}
use Rattle.repeat_flags.specs.Visits.{Visit, noted}

-- the state that a step leaves
abbrev pub state_left : List MachineStep → ℕ → ℕ
state_left steps k = unwrap_or (option_map (λ (step : MachineStep). step.from.0) (slice_get steps k)) 0

-- the state that a step enters
abbrev pub state_entered : List MachineStep → ℕ → ℕ
state_entered steps k = unwrap_or (option_map (λ (step : MachineStep). step.to.0) (slice_get steps k)) 0

-- the states that steps enter, one after another
abbrev pub states_entered : List MachineStep → List ℕ → List ℕ
states_entered steps ks = map (state_entered steps) ks

-- the states as visits, numbered from n
abbrev pub visits_from : ℕ → List ℕ → List Visit
visits_from n [] = []
visits_from n (state ∷ states) = record { state = state; at = n } ∷ visits_from (n + 1) states

-- for each state the first of the states before it that is the same
abbrev pub repeats_after : List ℕ → List ℕ → List (Option ℕ)
repeats_after before [] = []
repeats_after before (state ∷ states) = position (λ earlier. nat_eq earlier state) before ∷ repeats_after (before ++ state ∷ []) states

-- For each step the first state that it comes back to, of the one that the first step leaves and of those that are entered before it.
abbrev pub flags_of : List MachineStep → List ℕ → List (Option ℕ)
flags_of steps [] = []
flags_of steps (k ∷ ks) = repeats_after (state_left steps k ∷ []) (states_entered steps (k ∷ ks))

-- The number of the state that a step enters is the flag that is added, and the state is visited at the number of the hop.
pub record AddsFlag (steps : List MachineStep) (k hop : ℕ) (old_numbers : List (Option ℕ)) (old_flags : List (Option ℕ)) (new_numbers : List (Option ℕ)) (new_flags : List (Option ℕ)) : Type 0 where
  pub within : state_entered steps k < length old_numbers
  pub added : new_flags ≡ old_flags ++ slice_index_or old_numbers (state_entered steps k) None ∷ []
  pub visited : new_numbers ≡ noted old_numbers (state_entered steps k) hop

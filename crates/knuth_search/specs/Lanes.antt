-- The lanes of a queue: candidates by their roots.
use Rattle.std.specs.Prelude.{◌≡◌, ℕ, ◌<◌, List, [], length, map, slice_index_or}
use Rattle.std.specs.List.{All, flat_map}
use Rattle.segment_grammar.specs.declared.potentials.Pot.{Pot}
use Rattle.knuth_search.specs.declared.derived.Derived.{Derived}
use Rattle.knuth_search.specs.Derived.{Task}
use Rattle.knuth_search.specs.Offered.{OfferedValue}
use Rattle.knuth_search.specs.Tables.{pot_of, IsKept}

abbrev pub lane_in : List (List Derived) → ℕ → List Derived
lane_in lanes number = slice_index_or lanes number []

-- what waits in the lanes
abbrev pub pots_in : List (List Derived) → List Pot
pots_in lanes = flat_map (λ l. map pot_of l) lanes

-- candidates wait in the lane of this number
abbrev pub IsWaitingIn : List (List Derived) → ℕ → Type 0
IsWaitingIn lanes number = (number < length lanes) × (lane_in lanes number ≡ [] → ⊥)

-- the lanes of the plan, of candidates for the task, and a place for each state
pub record AreLanes (task : Task) (offered : OfferedValue) (lanes : List (List Derived)) : Type 0 where
  pub rooms : length lanes ≡ offered.plan.lanes
  pub states : length offered.request ≡ task.machine.states
  pub kept : All (λ l. All (IsKept task) l) lanes

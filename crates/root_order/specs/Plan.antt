-- A lane for each root.
use Rattle.ml_base.specs.declared.numbers.Root.{Root}
use Rattle.ml_base.specs.declared.numbers.Root.TheVariants.{Request, Entry}
use Rattle.std.specs.Prelude.{ℕ, ◌-◌, List, slice_index_or, min}

-- the lanes that states have, and how many lanes there are
pub record PlanValue : Type 0 where
  pub by_state : List ℕ
  pub lanes : ℕ

-- the last lane
abbrev pub last_lane : PlanValue → ℕ
last_lane p = p.lanes - 1

-- the lane of a root: that of its state, and the last where it has none
abbrev pub lane_of : PlanValue → Root → ℕ
lane_of p Request = last_lane p
lane_of p (Entry s) = min (slice_index_or p.by_state s.0 (last_lane p)) (last_lane p)

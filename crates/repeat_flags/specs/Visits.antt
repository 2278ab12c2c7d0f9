-- First visits: at which number each state was visited first.
use Rattle.std.specs.Prelude.{ℕ, List, [], ◌∷◌, Option, None, Some, cond, nat_eq, slice_index_or, slice_set}

-- a visit of a state, at a number
pub record Visit : Type 0 where
  pub state : ℕ
  pub at : ℕ

-- the number of the first of the visits that is of the state, if one is
abbrev pub first_at : List Visit → ℕ → Option ℕ
first_at [] state = None
first_at (v ∷ rest) state = cond (nat_eq v.state state) (Some v.at) (first_at rest state)

-- the number that a state has, where it has one, and else this
abbrev pub kept : Option ℕ → ℕ → Option ℕ
kept None at = Some at
kept (Some first) at = Some first

-- the numbers of the states behind one more visit
abbrev pub noted : List (Option ℕ) → ℕ → ℕ → List (Option ℕ)
noted numbers state at = slice_set numbers state (kept (slice_index_or numbers state None) at)

-- the numbers of the states behind these visits
abbrev pub after : List (Option ℕ) → List Visit → List (Option ℕ)
after numbers [] = numbers
after numbers (v ∷ rest) = after (noted numbers v.state v.at) rest

-- Rows of items.
use Rattle.std.specs.Prelude.{◌≡◌, ℕ, ◌+◌, ◌-◌, ◌≤◌, ◌⊎◌, List, [], ◌∷◌, ◌++◌, length, slice_index_or, slice_set, replicate}

abbrev pub row_of : {T : Type 0} → List (List T) → ℕ → List T
row_of rows row = slice_index_or rows row []

abbrev pub with_item : {T : Type 0} → List (List T) → ℕ → T → List (List T)
with_item rows row item = slice_set rows row (row_of rows row ++ item ∷ [])

abbrev pub no_rows : {T : Type 0} → ℕ → List (List T)
no_rows count = replicate count []

-- the rows, with empty ones behind them up to this many
abbrev pub filled_up : {T : Type 0} → ℕ → List (List T) → List (List T)
filled_up count rows = rows ++ no_rows (count - length rows)

-- the rows, with empty ones behind them, if there are more, not beyond this many
pub record IsGrown {T : Type 0} (old : List (List T)) (count : ℕ) (new : List (List T)) : Type 0 where
  pub more : ℕ
  pub few : (more ≡ 0) ⊎ (length old + more ≤ count)
  pub are : new ≡ old ++ no_rows more

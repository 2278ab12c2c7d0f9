-- The first place of a list where something fails.
use Rattle.std.specs.Prelude.{◌≡◌, ◌≢◌, ℕ, List, take, Some, slice_get}
use Rattle.std.specs.List.{All}

-- the item at k is the first of which P does not hold
pub record IsFirstFailing {A : Type 0} (P : A → Type 0) (xs : List A) (k : ℕ) : Type 0 where
  pub item : A
  pub at : slice_get xs k ≡ Some item
  pub fails : ¬ P item
  pub before : All P (take k xs)

-- the two lists agree up to k; there their items differ, or one of them ends
pub record IsFirstDifference {A : Type 0} (xs ys : List A) (k : ℕ) : Type 0 where
  pub before : take k xs ≡ take k ys
  pub differ : slice_get xs k ≢ slice_get ys k

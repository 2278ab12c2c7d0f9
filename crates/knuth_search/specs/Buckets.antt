-- The candidates of a lane, by weight.
use Rattle.std.specs.Prelude.{List, ◌∷◌, ◌++◌}
use Rattle.std.specs.List.{flat_map}
use Rattle.ml_base.specs.declared.weight.Weight.{Weight}
use Rattle.knuth_search.specs.declared.derived.Derived.{Derived}
use Rattle.knuth_search.specs.declared.lane.Bucket.{Bucket}

abbrev pub bucket_items : Bucket → List Derived
bucket_items b = b.first ∷ b.more.items

-- what waits in buckets
abbrev pub waiting_in : List (Weight × Bucket) → List Derived
waiting_in buckets = flat_map (λ e. bucket_items e.1) buckets

-- what is left of the bucket that was opened last, and what waits in the others
abbrev pub candidates_of : List Derived → List (Weight × Bucket) → List Derived
candidates_of left buckets = left ++ waiting_in buckets

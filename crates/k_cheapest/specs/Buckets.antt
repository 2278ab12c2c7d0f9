-- Sets of walks in buckets by weight.
use Rattle.std.specs.Prelude.{◌≡◌, List, ◌∷◌, map, None}
use Rattle.std.specs.List.{flat_map}
use Rattle.std.specs.Map.{lookup}
use Rattle.std.specs.BTreeMap.{is_at}
use Rattle.ml_base.specs.contracts.weight.WeightOrd.TheImpl.{ghosts}
use Rattle.ml_base.specs.declared.weight.Weight.{Weight}
use Rattle.k_cheapest.specs.declared.item.Item.{Item}
use Rattle.k_cheapest.specs.declared.queue.Open.{Open}
use Rattle.k_cheapest.specs.declared.queue.Bucket.{Bucket}

abbrev pub opens_of : Bucket → List Open
opens_of b = b.first ∷ b.more.items

abbrev pub weighing : Weight → Open → Item
weighing w o = record { weight = w; todo = o.todo; given = o.given }

-- the sets of a bucket, with its weight
abbrev pub weighed : Weight → Bucket → List Item
weighed w b = map (λ o. weighing w o) (opens_of b)

-- what waits in buckets
abbrev pub waiting_in : List (Weight × Bucket) → List Item
waiting_in buckets = flat_map (λ e. weighed e.0 e.1) buckets

-- no bucket has the weight
abbrev pub IsAbsent : Weight → List (Weight × Bucket) → Type 0
IsAbsent w buckets = lookup (is_at (ghosts.cmp w)) buckets ≡ None

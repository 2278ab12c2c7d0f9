-- Lists of the cheapest walks of a request over kept labels.
--   IsListed      a listed walk has these hops
--   IsListable    a walk that may be listed, with its weight
--   IsOther       a walk that is not listed
--   IsEnd         why no more are listed
--   IsKList       the `k` cheapest walks
--   outcome_told  the outcome of the request, by the first listed walk or by the end
use Rattle.std.specs.Prelude.{◌≡◌, ℕ, ◌^◌, ◌<◌, ◌≤◌, List, [], ◌∷◌, Option, None, Some, length, slice_get}
use Rattle.std.specs.List.{Contains}
use Rattle.ml_base.specs.declared.ends.KEnd.{KEnd}
use Rattle.ml_base.specs.declared.ends.KEnd.TheVariants.{Enough, NoMore, Past, Long}
use Rattle.ml_base.specs.declared.weight.Weight.{Weight}
use Rattle.ml_base.specs.declared.weight.Weight.TheVariants as weight
use Rattle.ml_base.specs.Weight.{IsAtMost}
use Rattle.circuit_spec.specs.declared.hops.Hop.{Hop}
use Rattle.circuit_spec.specs.declared.hops.Outcome.{Outcome}
use Rattle.circuit_spec.specs.declared.hops.Outcome.TheVariants as outcome
use Rattle.circuit_spec.specs.declared.hops.Request.{Request}
use Rattle.circuit_spec.specs.Network.{Topology}
use Rattle.circuit_spec.specs.Segments.{IsWalkOverKept}
use Rattle.circuit_spec.specs.Steps.{IsLeastCapped, weight_of}
use Rattle.k_answers.specs.declared.answer.KHops.{KHops}

-- a listed walk has these hops
abbrev pub IsListed : List KHops → List Hop → Type 0
IsListed walks hops = (w : KHops) × Contains walks w × (w.hops ≡ hops)

-- a walk over kept labels with its weight, which costs less than 2 ^ 64 and has no more hops than the limit
pub record IsListable (T : Topology) (r : Request) (limit : ℕ) (w : KHops) : Type 0 where
  pub is_walk : IsWalkOverKept T r w.hops
  pub weight : w.weight ≡ weight.Known (weight_of T w.hops).cost (weight_of T w.hops).hops
  pub cost : (weight_of T w.hops).cost < 2 ^ 64
  pub hops : (weight_of T w.hops).hops ≤ limit

-- a walk over kept labels that is not listed
pub record IsOther (T : Topology) (r : Request) (walks : List KHops) (hops : List Hop) : Type 0 where
  pub is_walk : IsWalkOverKept T r hops
  pub unlisted : IsListed walks hops → ⊥

-- Why no more are listed: there are `k`; or there are fewer and no others, others that each cost 2 ^ 64 or more, or others of this
-- least weight, as it is capped, whose hops are over the limit.
abbrev pub IsEnd : Topology → Request → ℕ → ℕ → List KHops → KEnd → Type 0
IsEnd T r k limit walks Enough = length walks ≡ k
IsEnd T r k limit walks NoMore = (length walks < k) × ((hops : List Hop) → ¬ IsOther T r walks hops)
IsEnd T r k limit walks Past =
    (length walks < k)
    × ((hops : List Hop) × IsOther T r walks hops)
    × ((hops : List Hop) → IsOther T r walks hops → 2 ^ 64 ≤ (weight_of T hops).cost)
IsEnd T r k limit walks (Long cost hops) =
    (length walks < k)
    × IsLeastCapped T (IsOther T r walks) (weight.Known cost hops)
    × (limit < hops)

-- the `k` cheapest walks over kept labels: no two of them the same, in order of weight, and no other lighter than the last; and why
-- there are no more
pub record IsKList (T : Topology) (r : Request) (k limit : ℕ) (walks : List KHops) (end : KEnd) : Type 0 where
  pub few : length walks ≤ k
  pub listable : (w : KHops) → Contains walks w → IsListable T r limit w
  pub once : (i j : ℕ) (v w : KHops) → i < j → slice_get walks i ≡ Some v → slice_get walks j ≡ Some w → v.hops ≡ w.hops → ⊥
  pub rising : (i j : ℕ) (v w : KHops) → i < j → slice_get walks i ≡ Some v → slice_get walks j ≡ Some w → IsAtMost (weight_of T v.hops) (weight_of T w.hops)
  pub least : (hops : List Hop) → IsOther T r walks hops → (w : KHops) → Contains walks w → IsAtMost (weight_of T w.hops) (weight_of T hops)
  pub is_end : IsEnd T r k limit walks end

-- the outcome where this is the weight of a first listed walk
abbrev pub outcome_found : Weight → Option Outcome
outcome_found (weight.Known cost hops) = Some (outcome.Found cost hops)
outcome_found weight.Past = None

-- the outcome that the first listed walk tells, or the end where none is listed
abbrev pub outcome_told : List KHops → KEnd → Option Outcome
outcome_told (w ∷ walks) end = outcome_found w.weight
outcome_told [] Enough = None
outcome_told [] NoMore = Some outcome.NoWalk
outcome_told [] Past = Some outcome.Past
outcome_told [] (Long cost hops) = Some (outcome.Long cost hops)

-- Lists of the cheapest walks of a machine.
use Rattle.std.specs.Prelude.{◌≡◌, ℕ, ◌^◌, ◌<◌, ◌≤◌, List, [], length, map, slice_get, Some}
use Rattle.std.specs.List.{Contains}
use Rattle.ml_base.specs.declared.numbers.StateNo.{StateNo}
use Rattle.ml_base.specs.declared.numbers.StepNo.{StepNo}
use Rattle.ml_base.specs.declared.weight.Weight.{Weight}
use Rattle.ml_base.specs.declared.weight.Weight.TheVariants.{Known}
use Rattle.ml_base.specs.Weight.{IsCappedAtMost}
use Rattle.walk_grammar.specs.System.{Run, cost_of}
use Rattle.adapt_machine.specs.declared.MachineStep.{MachineStep}
use Rattle.adapt_machine.specs.Walks.{system_of, weight_of}
use Rattle.k_cheapest.specs.declared.found.KWalk.{KWalk}
use Rattle.ml_base.specs.declared.ends.KEnd.{KEnd}
use Rattle.ml_base.specs.declared.ends.KEnd.TheVariants.{Enough, NoMore, Past, Long}

-- the steps run from a start to a target, with the empty stack at both ends
abbrev pub IsWalk : List MachineStep → List StateNo → List StateNo → List ℕ → Type 0
IsWalk steps starts targets ks = (a : StateNo) × (b : StateNo) × Contains starts a × Contains targets b × Run (system_of steps) a [] ks b []

abbrev pub numbers_of : List StepNo → List ℕ
numbers_of ks = map (λ k. k.0) ks

abbrev pub IsListed : List KWalk → List ℕ → Type 0
IsListed walks ks = (w : KWalk) × Contains walks w × (numbers_of w.steps ≡ ks)

-- a walk with its weight, which costs less than 2 ^ 64 and has no more hops than the limit
pub record IsListable (steps : List MachineStep) (starts targets : List StateNo) (limit : ℕ) (w : KWalk) : Type 0 where
  pub is_walk : IsWalk steps starts targets (numbers_of w.steps)
  pub weight : w.weight ≡ weight_of steps (numbers_of w.steps)
  pub cost : cost_of (system_of steps) (numbers_of w.steps) < 2 ^ 64
  pub hops : length (numbers_of w.steps) ≤ limit

-- a walk that is not listed
pub record IsOther (steps : List MachineStep) (starts targets : List StateNo) (walks : List KWalk) (ks : List ℕ) : Type 0 where
  pub is_walk : IsWalk steps starts targets ks
  pub unlisted : IsListed walks ks → ⊥

-- the others have this least weight, as it is capped, and it has more hops than the limit
pub record AreLong (steps : List MachineStep) (starts targets : List StateNo) (limit : ℕ) (walks : List KWalk) (w : Weight) (hops : ℕ) : Type 0 where
  pub lightest : List ℕ
  pub other : IsOther steps starts targets walks lightest
  pub weight : weight_of steps lightest ≡ w
  pub least : (ks : List ℕ) → IsOther steps starts targets walks ks → IsCappedAtMost w (weight_of steps ks)
  pub over : limit < hops

-- why no more are listed: there are `k`, or there are fewer and no other may be listed next
abbrev pub IsEnd : List MachineStep → List StateNo → List StateNo → ℕ → ℕ → List KWalk → KEnd → Type 0
IsEnd steps starts targets k limit walks Enough = length walks ≡ k
IsEnd steps starts targets k limit walks NoMore = (length walks < k) × ((ks : List ℕ) → IsOther steps starts targets walks ks → ⊥)
IsEnd steps starts targets k limit walks Past =
    (length walks < k)
    × ((ks : List ℕ) × IsOther steps starts targets walks ks)
    × ((ks : List ℕ) → IsOther steps starts targets walks ks → 2 ^ 64 ≤ cost_of (system_of steps) ks)
IsEnd steps starts targets k limit walks (Long cost hops) = (length walks < k) × AreLong steps starts targets limit walks (Known cost hops) hops

-- the `k` cheapest walks: no two of them the same, in order of weight, and no other lighter than the last; and why there are no more
pub record IsKList (steps : List MachineStep) (starts targets : List StateNo) (k limit : ℕ) (walks : List KWalk) (end : KEnd) : Type 0 where
  pub few : length walks ≤ k
  pub listable : (w : KWalk) → Contains walks w → IsListable steps starts targets limit w
  pub once : (i j : ℕ) (v w : KWalk) → i < j → slice_get walks i ≡ Some v → slice_get walks j ≡ Some w → v.steps ≡ w.steps → ⊥
  pub rising : (i j : ℕ) (v w : KWalk) → i < j → slice_get walks i ≡ Some v → slice_get walks j ≡ Some w → IsCappedAtMost v.weight w.weight
  pub least : (ks : List ℕ) → IsOther steps starts targets walks ks → (w : KWalk) → Contains walks w → IsCappedAtMost w.weight (weight_of steps ks)
  pub is_end : IsEnd steps starts targets k limit walks end

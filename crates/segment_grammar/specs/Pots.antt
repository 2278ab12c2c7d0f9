-- Lists of weights for pairs of a root and a state, in the order of root and state.
use Rattle.std.specs.Prelude.{◌≡◌, ℕ, ◌+◌, ◌<◌, ◌≤◌, ◌⊎◌, List, length, slice_get, Some}
use Rattle.ml_base.specs.declared.numbers.StateNo.{StateNo}
use Rattle.ml_base.specs.declared.numbers.Root.{Root}
use Rattle.ml_base.specs.declared.numbers.Root.TheVariants.{Request, Entry}
use Rattle.ml_base.specs.declared.weight.Weight.{Weight}
use Rattle.segment_grammar.specs.declared.potentials.Pot.{Pot}

abbrev pub pot : Root → StateNo → Weight → Pot
pot root state weight = record { root = root; state = state; weight = weight }

-- the request comes first, then the entered states
abbrev pub IsRootBelow : Root → Root → Type 0
IsRootBelow r Request = ⊥
IsRootBelow Request (Entry b) = Unit {0}
IsRootBelow (Entry a) (Entry b) = a.0 < b.0

-- by root, then by state
abbrev pub IsBelow : Root → StateNo → Root → StateNo → Type 0
IsBelow r s q t = IsRootBelow r q ⊎ ((r ≡ q) × (s.0 < t.0))

-- each stands below each later one
abbrev pub IsRising : List Pot → Type 0
IsRising pots = (i j : ℕ) (p q : Pot) → i < j → slice_get pots i ≡ Some p → slice_get pots j ≡ Some q → IsBelow p.root p.state q.root q.state

-- the pair stands above the last one, if there is one
abbrev pub IsAboveLast : List Pot → Root → StateNo → Type 0
IsAboveLast pots root state = (i : ℕ) (p : Pot) → i + 1 ≡ length pots → slice_get pots i ≡ Some p → IsBelow p.root p.state root state

-- the pot is of this pair
abbrev pub IsOfPair : Pot → Root → StateNo → Type 0
IsOfPair p root state = (p.root ≡ root) × (p.state ≡ state)

-- the place of the pair in the order is between `low` and `high`
pub record IsBetween (pots : List Pot) (root : Root) (state : StateNo) (low high : ℕ) : Type 0 where
  pub ordered : low ≤ high
  pub within : high ≤ length pots
  pub below : (i : ℕ) (p : Pot) → i < low → slice_get pots i ≡ Some p → IsBelow p.root p.state root state
  pub above : (i : ℕ) (p : Pot) → high ≤ i → slice_get pots i ≡ Some p → IsBelow p.root p.state root state → ⊥

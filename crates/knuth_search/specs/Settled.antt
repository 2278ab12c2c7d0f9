-- What a search has found: weights of pairs, and beside each weight a derivation.
use Rattle.std.specs.Prelude.{◌≡◌, ℕ, List, length, map, slice_get, Option, Some, None}
use Rattle.std.specs.List.{Contains}
use Rattle.ml_base.specs.declared.numbers.StateNo.{StateNo}
use Rattle.ml_base.specs.declared.numbers.Root.{Root}
use Rattle.ml_base.specs.declared.numbers.Root.TheVariants.{Request}
use Rattle.ml_base.specs.declared.weight.Weight.{Weight}
use Rattle.ml_base.specs.Weight.{IsCappedAtMost}
use Rattle.adapt_machine.specs.Machine.{MachineValue}
use Rattle.adapt_machine.specs.Walks.{weight_of}
use Rattle.adapt_machine.specs.declared.MachineStep.{MachineStep}
use Rattle.segment_grammar.specs.declared.potentials.Pot.{Pot}
use Rattle.segment_grammar.specs.Pots.{pot}
use Rattle.segment_grammar.specs.Reached.{IsSegmentUnder, IsReached, IsLeast}
use Rattle.deriv_arena.specs.declared.Deriv.{Deriv}
use Rattle.deriv_arena.specs.Derivation.{kept_weight, unfolding_of, IsOver}
use Rattle.knuth_search.specs.declared.settled.Settled.{Settled}

abbrev pub potentials_of : Settled → List Pot
potentials_of s = s.potentials

-- the derivation at each place
abbrev pub derivs_of : Settled → List Deriv
derivs_of s = map (λ d. d.now) s.derivs.items

-- exactly the reached pairs, each with its least weight
pub record ArePotentials (steps : List MachineStep) (starts : List StateNo) (pots : List Pot) : Type 0 where
  pub least : (p : Pot) → Contains pots p → IsLeast steps starts p.root p.state p.weight
  pub all : (root : Root) (state : StateNo) → IsReached steps starts root state → (w : Weight) × Contains pots (pot root state w)

-- a derivation over the machine, whose unfolding is a segment under the root to the state and weighs the least of them
pub record IsCheapest (steps : List MachineStep) (starts : List StateNo) (root : Root) (state : StateNo) (d : Deriv) : Type 0 where
  pub over : IsOver steps d
  pub segment : IsSegmentUnder steps starts root (unfolding_of d) state
  pub weight : weight_of steps (unfolding_of d) ≡ kept_weight d
  pub least : IsLeast steps starts root state (kept_weight d)

-- the potentials of the machine from these starts, and a cheapest derivation beside each
pub record IsSettledOf (m : MachineValue) (starts : List StateNo) (s : Settled) : Type 0 where
  pub potentials : ArePotentials m.steps starts (potentials_of s)
  pub rooms : length (derivs_of s) ≡ length (potentials_of s)
  pub derived : (i : ℕ) (p : Pot) (d : Deriv) → slice_get (potentials_of s) i ≡ Some p → slice_get (derivs_of s) i ≡ Some d → IsCheapest m.steps starts p.root p.state d

-- a cheapest derivation under the request to one of the targets; no segment to any of them weighs less
pub record IsBest (steps : List MachineStep) (starts targets : List StateNo) (d : Deriv) : Type 0 where
  pub target : StateNo
  pub listed : Contains targets target
  pub cheapest : IsCheapest steps starts Request target d
  pub least : (other : StateNo) (ks : List ℕ) → Contains targets other → IsSegmentUnder steps starts Request ks other → IsCappedAtMost (kept_weight d) (weight_of steps ks)

-- the least weight of one of the targets under the request; no segment to any of them weighs less
pub record IsLightest (steps : List MachineStep) (starts targets : List StateNo) (p : Pot) : Type 0 where
  pub listed : Contains targets p.state
  pub is_least : IsLeast steps starts Request p.state p.weight
  pub least : (other : StateNo) (ks : List ℕ) → Contains targets other → IsSegmentUnder steps starts Request ks other → IsCappedAtMost p.weight (weight_of steps ks)

-- such a weight, or none where no target is reached
abbrev pub IsLightestOf : List MachineStep → List StateNo → List StateNo → Option Pot → Type 0
IsLightestOf steps starts targets None = (target : StateNo) → Contains targets target → IsReached steps starts Request target → ⊥
IsLightestOf steps starts targets (Some p) = IsLightest steps starts targets p

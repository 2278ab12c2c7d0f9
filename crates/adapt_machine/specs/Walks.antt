-- The machine as a system of steps, whose runs, segments and costs are those of any such system.
use Rattle.std.specs.Prelude.{◌≡◌, ℕ, List, length, slice_get, Option, Some, None}
use Rattle.ml_base.specs.declared.numbers.StateNo.{StateNo}
use Rattle.ml_base.specs.declared.numbers.FrameNo.{FrameNo}
use Rattle.ml_base.specs.declared.weight.Weight.{Weight}
use Rattle.ml_base.specs.Weight.{FullWeight, cap}
use Rattle.walk_grammar.specs.System.{System, cost_of}
use Rattle.adapt_machine.specs.declared.MachineStep.{MachineStep}
use Rattle.adapt_machine.specs.declared.MachineKind.{MachineKind}
use Rattle.adapt_machine.specs.declared.MachineKind.TheVariants.{Flat, Push, Pop}

-- step number `k` is `t`, of this kind, and goes from `x` to `y`
pub record IsStep (steps : List MachineStep) (kind : MachineKind) (x : StateNo) (k : ℕ) (t : MachineStep) (y : StateNo) : Type 0 where
  pub found : slice_get steps k ≡ Some t
  pub is_kind : t.kind ≡ kind
  pub leaves : t.from ≡ x
  pub enters : t.to ≡ y

-- the cost of the step at a place
abbrev pub cost_found : Option MachineStep → ℕ
cost_found None = 0
cost_found (Some t) = t.cost

-- a step is known by its place in the list; a flat step keeps the stack, a push puts its frame on top, and a pop takes its frame off
abbrev pub system_of : List MachineStep → System StateNo FrameNo ℕ
system_of steps = record {
  Keeps = λ x k y. (t : MachineStep) × IsStep steps Flat x k t y;
  Pushes = λ x k f y. (t : MachineStep) × IsStep steps Push x k t y × (t.frame ≡ f);
  Pops = λ x k f y. (t : MachineStep) × IsStep steps Pop x k t y × (t.frame ≡ f);
  cost = λ k. cost_found (slice_get steps k);
}

-- the weight of a list of steps: its cost and one hop for each, without bound and capped
abbrev pub full_weight_of : List MachineStep → List ℕ → FullWeight
full_weight_of steps ks = record { cost = cost_of (system_of steps) ks; hops = length ks }

abbrev pub weight_of : List MachineStep → List ℕ → Weight
weight_of steps ks = cap (full_weight_of steps ks)

-- When a push of a pair need not be looked up, since an earlier pair pushes the same way at no more.
use Rattle.std.specs.Prelude.{◌≡◌, ◌<◌, ℕ, List, Some, slice_get}
use Rattle.ml_base.specs.declared.numbers.StepNo.{StepNo}
use Rattle.ml_base.specs.declared.weight.Weight.{Weight}
use Rattle.ml_base.specs.Weight.{IsCappedAtMost, capped_total}
use Rattle.adapt_machine.specs.declared.MachineStep.{MachineStep}
use Rattle.adapt_machine.specs.declared.MachineKind.TheVariants.{Push}
use Rattle.segment_grammar.specs.declared.potentials.Pot.{Pot}
use Rattle.pair_check.specs.Rules.{step_weight}

-- the weight of the pair and of the step
abbrev pub weight_by : Pot → MachineStep → Weight
weight_by p t = capped_total p.weight (step_weight t)

-- `push` leaves `pair` from the root from which `other_push` leaves `other`, for the same state and with the same frame, at no more
pub record IsSameWay (pair : Pot) (push : MachineStep) (other : Pot) (other_push : MachineStep) : Type 0 where
  pub root : pair.root ≡ other.root
  pub is_push : push.kind ≡ Push
  pub from : push.from ≡ pair.state
  pub to : push.to ≡ other_push.to
  pub frame : push.frame ≡ other_push.frame
  pub at_most : IsCappedAtMost (weight_by pair push) (weight_by other other_push)

-- a pair that is listed before the place pushes the same way
pub record IsOvertaken (steps : List MachineStep) (pots : List Pot) (place : ℕ) (other : Pot) (other_push : MachineStep) : Type 0 where
  pub number : ℕ
  pub early : number < place
  pub pair : Pot
  pub found : slice_get pots number ≡ Some pair
  pub way : StepNo
  pub push : MachineStep
  pub push_found : slice_get steps way.0 ≡ Some push
  pub same : IsSameWay pair push other other_push

-- What follows from settled pairs in one step or one nest.
use Rattle.std.specs.Prelude.{◌≡◌, ℕ, ◌<◌, ◌⊎◌, List, slice_get, Some}
use Rattle.std.specs.List.{Contains}
use Rattle.ml_base.specs.declared.numbers.Root.TheVariants.{Entry}
use Rattle.ml_base.specs.declared.numbers.StateNo.{StateNo}
use Rattle.ml_base.specs.declared.numbers.StepNo.{StepNo}
use Rattle.ml_base.specs.declared.weight.Weight.{Weight}
use Rattle.ml_base.specs.Weight.{cap, capped_total, IsCappedAtMost}
use Rattle.adapt_machine.specs.Machine.{MachineValue}
use Rattle.adapt_machine.specs.declared.MachineStep.{MachineStep}
use Rattle.segment_grammar.specs.declared.potentials.Pot.{Pot}
use Rattle.segment_grammar.specs.Pots.{pot}
use Rattle.segment_grammar.specs.Index.{AreSteps, IsFlatFrom, IsPushFrom, IsPopAt}
use Rattle.knuth_search.specs.Offered.{offered_at}
use Rattle.knuth_search.specs.Tables.{Queued}

abbrev pub zero : Weight
zero = cap (record { cost = 0; hops = 0 })

-- the weight with one more step
abbrev pub stepped : Weight → MachineStep → Weight
stepped w t = capped_total w (cap (record { cost = t.cost; hops = 1 }))

-- the list has the pair of `p` at no more than its weight
pub record IsCovered (list : List Pot) (p : Pot) : Type 0 where
  pub weight : Weight
  pub listed : Contains list (pot p.root p.state weight)
  pub at_most : IsCappedAtMost weight p.weight

-- the step of this number passes the test
pub record IsStepOf (steps : List MachineStep) (test : MachineStep → Type 0) (k : StepNo) : Type 0 where
  pub step : MachineStep
  pub found : slice_get steps k.0 ≡ Some step
  pub passes : test step

-- flat step `k` from `prev` gives `p`
pub record FlatBy (steps : List MachineStep) (prev : Pot) (k : StepNo) (p : Pot) : Type 0 where
  pub step : IsStepOf steps (IsFlatFrom prev.state) k
  pub is : p ≡ pot prev.root step.step.to (stepped prev.weight step.step)

-- push `k` from `prev` opens the root `p`
pub record OpenedBy (steps : List MachineStep) (prev : Pot) (k : StepNo) (p : Pot) : Type 0 where
  pub push : IsStepOf steps (IsPushFrom prev.state) k
  pub is : p ≡ pot (Entry push.step.to) push.step.to zero

-- push `k` from `prev` enters the state under which `inner` stands
pub record Enters (steps : List MachineStep) (prev : Pot) (k : StepNo) (inner : Pot) : Type 0 where
  pub push : IsStepOf steps (IsPushFrom prev.state) k
  pub under : inner.root ≡ Entry push.step.to

-- and pop `l` of its frame leaves `inner`
pub record Meets (steps : List MachineStep) (prev : Pot) (k : StepNo) (inner : Pot) (l : StepNo) : Type 0 where
  pub enters : Enters steps prev k inner
  pub pop : IsStepOf steps (IsPopAt inner.state enters.push.step.frame) l

-- exactly the pops from the state that take off the frame of push `k`
pub record ArePopsOf (m : MachineValue) (k : StepNo) (state : StateNo) (pops : List StepNo) : Type 0 where
  pub step : MachineStep
  pub found : slice_get m.steps k.0 ≡ Some step
  pub listed : AreSteps m (IsPopAt state step.frame) pops

-- `prev`, push `k`, `inner` and pop `l` give `p`
pub record NestedBy (steps : List MachineStep) (prev : Pot) (k : StepNo) (inner : Pot) (l : StepNo) (p : Pot) : Type 0 where
  pub meets : Meets steps prev k inner l
  pub is : p ≡ pot prev.root meets.pop.step.to (stepped (capped_total (stepped prev.weight meets.enters.push.step) inner.weight) meets.pop.step)

-- some step of a list, or some pair of a table, gives `p`
pub record SomeStep (R : StepNo → Pot → Type 0) (p : Pot) : Type 0 where
  pub number : StepNo
  pub gives : R number p

pub record SomePot (table : List Pot) (R : Pot → Pot → Type 0) (p : Pot) : Type 0 where
  pub item : Pot
  pub listed : Contains table item
  pub gives : R item p

-- a nest of `prev` over push `k` and some settled inner pair; and all that one more settled pair gives
abbrev pub Closes : List MachineStep → Pot → StepNo → Pot → Pot → Type 0
Closes steps prev k inner p = SomeStep (λ l p. NestedBy steps prev k inner l p) p

abbrev pub PushedBy : List MachineStep → List Pot → Pot → StepNo → Pot → Type 0
PushedBy steps table prev k p = OpenedBy steps prev k p ⊎ SomePot table (λ inner p. Closes steps prev k inner p) p

-- what follows from `prev` as the first part
abbrev pub Extends : List MachineStep → List Pot → Pot → Pot → Type 0
Extends steps table prev p = SomeStep (λ k p. FlatBy steps prev k p) p ⊎ SomeStep (λ k p. PushedBy steps table prev k p) p

-- what follows from `inner` as the inner part
abbrev pub Fills : List MachineStep → List Pot → Pot → Pot → Type 0
Fills steps table inner p = SomeStep (λ k p. SomePot table (λ prev p. Closes steps prev k inner p) p) p

-- the pair of `p` was offered at no more than its weight
pub record IsOffered (queue : Queued) (p : Pot) : Type 0 where
  pub weight : Weight
  pub found : offered_at queue.offered p.root p.state ≡ Some weight
  pub at_most : IsCappedAtMost weight p.weight

-- `p` weighs no more than what its pair was offered at, if it was
abbrev pub IsNoHeavier : Queued → Pot → Type 0
IsNoHeavier queue p = (w : Weight) → offered_at queue.offered p.root p.state ≡ Some w → IsCappedAtMost p.weight w

-- the pair of `p` was offered at less
pub record IsBeaten (queue : Queued) (p : Pot) : Type 0 where
  pub weight : Weight
  pub found : offered_at queue.offered p.root p.state ≡ Some weight
  pub less : IsCappedAtMost p.weight weight → ⊥

-- what `R` says is offered, at no more; what was offered or waited still is and does, and what is offered beside it waits
pub record Offers (R : Pot → Type 0) (old new : Queued) : Type 0 where
  pub kept : (p : Pot) → IsOffered old p → IsOffered new p
  pub waits : (p : Pot) → Contains old.waiting p → Contains new.waiting p
  pub held : (p : Pot) → IsOffered new p → IsOffered old p ⊎ IsCovered new.waiting p
  pub all : (p : Pot) → R p → IsOffered new p

-- one of the first `n` items relates to `p`
pub record Among {X : Type 0} (R : X → Pot → Type 0) (xs : List X) (n : ℕ) (p : Pot) : Type 0 where
  pub number : ℕ
  pub early : number < n
  pub item : X
  pub found : slice_get xs number ≡ Some item
  pub gives : R item p

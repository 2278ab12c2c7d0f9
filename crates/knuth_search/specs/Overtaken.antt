-- When a push need not be followed from a pair, since an earlier pair leads the same way at no more.
use Rattle.std.specs.Prelude.{◌≡◌, ℕ, ◌+◌, ◌<◌, List, [], ◌∷◌, ◌++◌, length, slice_get, Some}
use Rattle.std.specs.List.{Contains}
use Rattle.ml_base.specs.declared.numbers.StepNo.{StepNo}
use Rattle.ml_base.specs.Weight.{IsCappedAtMost}
use Rattle.adapt_machine.specs.declared.MachineStep.{MachineStep}
use Rattle.adapt_machine.specs.declared.MachineKind.TheVariants.{Push}
use Rattle.segment_grammar.specs.declared.potentials.Pot.{Pot}
use Rattle.knuth_search.specs.Following.{stepped, Closes, Extends, SomePot, IsOffered}
use Rattle.knuth_search.specs.Tables.{Queued}

-- `push` leaves `pair` from the root from which `other_push` leaves `other`, for the same state and with the same frame, at no more
pub record IsSameWay (pair : Pot) (push : MachineStep) (other : Pot) (other_push : MachineStep) : Type 0 where
  pub root : pair.root ≡ other.root
  pub is_push : push.kind ≡ Push
  pub from : push.from ≡ pair.state
  pub to : push.to ≡ other_push.to
  pub frame : push.frame ≡ other_push.frame
  pub at_most : IsCappedAtMost (stepped pair.weight push) (stepped other.weight other_push)

-- a pair before the last of the table leads the same way
pub record IsOvertaken (steps : List MachineStep) (table : List Pot) (prev : Pot) (pushed : MachineStep) : Type 0 where
  pub number : ℕ
  pub early : number + 1 < length table
  pub pair : Pot
  pub found : slice_get table number ≡ Some pair
  pub way : StepNo
  pub push : MachineStep
  pub push_found : slice_get steps way.0 ≡ Some push
  pub same : IsSameWay pair push prev pushed

-- what each pair before the last of the table gives as the first part of a nest was offered
abbrev pub AreNested : List MachineStep → List Pot → Queued → Type 0
AreNested steps table queue = (number : ℕ) (v : Pot) → number + 1 < length table → slice_get table number ≡ Some v → (k : StepNo) (p : Pot) → SomePot table (λ inner p. Closes steps v k inner p) p → IsOffered queue p

-- all that follows from the table's pairs was offered
abbrev pub IsClosed : List MachineStep → List Pot → Queued → Type 0
IsClosed steps table queue = (v p : Pot) → Contains table v → Extends steps table v p → IsOffered queue p

-- and the last pair of the table alone is new
pub record IsClosedBefore (steps : List MachineStep) (table : List Pot) (next : Pot) (queue : Queued) : Type 0 where
  pub earlier : List Pot
  pub added : table ≡ earlier ++ next ∷ []
  pub closed : IsClosed steps earlier queue

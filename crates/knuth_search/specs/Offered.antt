-- What was offered to a queue: the least weight of each pair of a root and a state.
use Rattle.std.specs.Prelude.{◌≡◌, ℕ, ◌⊎◌, ◌&&◌, nat_eq, List, [], slice_index_or, Option, Some, None}
use Rattle.std.specs.Map.{lookup}
use Rattle.ml_base.specs.declared.numbers.StateNo.{StateNo}
use Rattle.ml_base.specs.declared.numbers.Root.{Root}
use Rattle.ml_base.specs.declared.numbers.Root.TheVariants.{Request, Entry}
use Rattle.ml_base.specs.declared.weight.Weight.{Weight}
use Rattle.segment_grammar.specs.declared.potentials.Pot.{Pot}
use Rattle.segment_grammar.specs.Pots.{IsOfPair}
use Rattle.root_order.specs.Plan.{PlanValue, lane_of}

-- under the request a list by state; under entered states a map for each lane of the plan, by the entered state and the state
pub record OfferedValue : Type 0 where
  pub plan : PlanValue
  pub request : List (Option Weight)
  pub maps : List (List ((ℕ × ℕ) × Weight))

-- the weight that a map has for an entered state and a state
abbrev pub weight_in : List ((ℕ × ℕ) × Weight) → ℕ → ℕ → Option Weight
weight_in weights entry state = lookup (λ (p : ℕ × ℕ). nat_eq entry p.0 && nat_eq state p.1) weights

-- the least weight at which the pair was offered
abbrev pub offered_at : OfferedValue → Root → StateNo → Option Weight
offered_at offered Request state = slice_index_or offered.request state.0 None
offered_at offered (Entry entry) state = weight_in (slice_index_or offered.maps (lane_of offered.plan (Entry entry)) []) entry.0 state.0

-- the weight is what was offered of the pair, and for each other pair what was offered of it stays
pub record Puts (old : OfferedValue) (x : Pot) (new : OfferedValue) : Type 0 where
  pub here : offered_at new x.root x.state ≡ Some x.weight
  pub others : (root : Root) (state : StateNo) → IsOfPair x root state ⊎ (offered_at new root state ≡ offered_at old root state)

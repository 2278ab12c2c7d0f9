-- The least weight that is listed under the request at one of some states.
use Rattle.std.specs.Prelude.{◌≡◌, ◌⊎◌, List, Option, Some, None, MatchOption}
use Rattle.std.specs.List.{Contains}
use Rattle.ml_base.specs.declared.numbers.Root.TheVariants.{Request}
use Rattle.ml_base.specs.declared.numbers.StateNo.{StateNo}
use Rattle.ml_base.specs.declared.weight.Weight.{Weight}
use Rattle.ml_base.specs.Weight.{IsCappedAtMost}
use Rattle.segment_grammar.specs.declared.potentials.Pot.{Pot}
use Rattle.segment_grammar.specs.Pots.{pot}

-- none of the states is listed under the request
abbrev pub NoneIsListed : List StateNo → List Pot → Type 0
NoneIsListed states pots = (x : StateNo) (weight : Weight) → Contains states x → ¬ Contains pots (pot Request x weight)

-- one of them is listed with this weight, and none with a smaller one
pub record IsLeastAt (states : List StateNo) (pots : List Pot) (w : Weight) : Type 0 where
  pub state : StateNo
  pub among : Contains states state
  pub listed : Contains pots (pot Request state w)
  pub least : (other : StateNo) (weight : Weight) → Contains states other → Contains pots (pot Request other weight) → IsCappedAtMost w weight

-- the weight is at most the one, if there is one, and the other, and is one of them
abbrev pub IsLesserOf : Option Weight → Weight → Weight → Type 0
IsLesserOf None weight lesser = lesser ≡ weight
IsLesserOf (Some so_far) weight lesser = IsCappedAtMost lesser so_far × IsCappedAtMost lesser weight × ((lesser ≡ so_far) ⊎ (lesser ≡ weight))

-- the least weight, or None where no state is listed
abbrev pub IsLeastOf : List StateNo → List Pot → Option Weight → Type 0
IsLeastOf states pots least = MatchOption least (NoneIsListed states pots) (IsLeastAt states pots)

-- The turns of the search, and what it finds.
use Rattle.std.specs.Prelude.{◌≡◌, ℕ, ◌⊎◌, List, [], ◌∷◌, ◌++◌}
use Rattle.std.specs.List.{Contains}
use Rattle.ml_base.specs.declared.numbers.StateNo.{StateNo}
use Rattle.ml_base.specs.declared.numbers.Root.{Root}
use Rattle.ml_base.specs.declared.numbers.Root.TheVariants.{Request}
use Rattle.adapt_machine.specs.Walks.{weight_of}
use Rattle.adapt_machine.specs.declared.MachineStep.{MachineStep}
use Rattle.segment_grammar.specs.declared.potentials.Pot.{Pot}
use Rattle.segment_grammar.specs.Pots.{pot}
use Rattle.segment_grammar.specs.Reached.{IsSegmentUnder}
use Rattle.knuth_search.specs.Following.{zero, IsCovered, IsBeaten, Extends, Fills, Offers}
use Rattle.knuth_search.specs.Tables.{Queued}

-- the request is reached at each start
abbrev pub Begins : List StateNo → Pot → Type 0
Begins starts p = (a : StateNo) × Contains starts a × (p ≡ pot Request a zero)

-- what follows from `next`
abbrev pub Follows : List MachineStep → List Pot → Pot → Pot → Type 0
Follows steps table next p = Extends steps table next p ⊎ Fills steps table next p

-- the pair of `next` was offered at less, or it is put into the table and what follows from it is offered
abbrev pub Turns : List MachineStep → List Pot → Queued → Pot → List Pot → Queued → Type 0
Turns steps table queue next table' queue' = (IsBeaten queue next × (table' ≡ table) × (queue' ≡ queue))
    ⊎ ((table' ≡ table ++ next ∷ []) × Offers (λ p. Follows steps table' next p) queue queue')

-- each segment weighs at least what the table lists for its ends
abbrev pub IsComplete : List MachineStep → List StateNo → List Pot → Type 0
IsComplete steps starts table = (root : Root) (ks : List ℕ) (y : StateNo) → IsSegmentUnder steps starts root ks y → IsCovered table (pot root y (weight_of steps ks))

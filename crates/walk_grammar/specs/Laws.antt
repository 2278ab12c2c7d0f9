-- The statements of the theorem on runs, segments and the four rules.
use Rattle.std.specs.Prelude.{ℕ, List, ◌++◌, length}
use Rattle.walk_grammar.specs.System.{System, Origin, Run, cost_of, IsSegmentUnder}

module _ {State Frame Step : Type 0} (S : System State Frame Step) where
  -- A run from one stack to another is a run with any frames below both.
  abbrev pub RunsStandOnStacks : Type 0
  RunsStandOnStacks =
      (steps : List Step) (from : State) (stack : List Frame) (to : State) (left : List Frame) (below : List Frame)
      → Run S from stack steps to left → Run S from (stack ++ below) steps to (left ++ below)

  -- The relation has every segment under every root, at its cost and number of steps.
  abbrev pub HoldsOfSegments : (State → Type 0) → (Origin State → State → ℕ → ℕ → Type 0) → Type 0
  HoldsOfSegments Start P =
      (root : Origin State) (steps : List Step) (to : State) → IsSegmentUnder S Start root steps to → P root to (cost_of S steps) (length steps)

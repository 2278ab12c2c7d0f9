-- Derivations, which say how a segment is put together: from the empty one, a step or a nest at a time.
use Rattle.std.specs.Prelude.{◌≡◌, List, [], ◌∷◌, ◌++◌}
use Rattle.walk_grammar.specs.System.{System}

-- no step; a derivation and one more step; or a derivation and one more nest: a push, an inner derivation and a pop
pub data Derivation (Step : Type 0) : Type 0 where
  Rest : Derivation Step
  Then : Derivation Step → Step → Derivation Step
  Nest : Derivation Step → Step → Derivation Step → Step → Derivation Step

-- the steps of a derivation, in order
abbrev pub steps_of : {Step : Type 0} → Derivation Step → List Step
steps_of Rest = []
steps_of (Then before k) = steps_of before ++ k ∷ []
steps_of (Nest before k inner l) = steps_of before ++ k ∷ (steps_of inner ++ l ∷ [])

-- the derivation goes from state `x` to state `y`: each step of it leaves the state that the one before enters, a step by itself keeps
-- the stack, and the two steps round an inner derivation push a frame and pop the same frame
abbrev pub Derives : {State Frame Step : Type 0} → System State Frame Step → State → Derivation Step → State → Type 0
Derives S x Rest y = x ≡ y
Derives {State} S x (Then before k) y = (z : State) × Derives S x before z × S.Keeps z k y
Derives {State} {Frame} S x (Nest before k inner l) y =
    (z : State) × (e : State) × (v : State) × (f : Frame) × Derives S x before z × S.Pushes z k f e × Derives S e inner v × S.Pops v l f y

-- The ways in which a segment ends, and systems whose steps tell what they do.
use Rattle.std.specs.Prelude.{◌≡◌, List, [], ◌∷◌, ◌++◌}
use Rattle.walk_grammar.specs.System.{System, Run}

-- the last thing in a list of steps, behind those before it: one step, or a push, the steps inside and a pop
pub data Ending (Step : Type 0) : Type 0 where
  WithStep : List Step → Step → Ending Step
  WithNest : List Step → Step → List Step → Step → Ending Step

module _ {State Frame Step : Type 0} (S : System State Frame Step) where
  -- a segment, then a step that keeps the stack; or a segment, then a segment between a push and a pop of the same frame
  abbrev pub EndsAs : State → List Step → State → Ending Step → Type 0
  EndsAs x ks y (WithStep before k) = (z : State) × (ks ≡ before ++ k ∷ []) × Run S x [] before z [] × S.Keeps z k y
  EndsAs x ks y (WithNest before k inside l) =
      (z : State) × (e : State) × (v : State) × (f : Frame) × (ks ≡ before ++ k ∷ (inside ++ l ∷ []))
      × Run S x [] before z [] × S.Pushes z k f e × Run S e [] inside v [] × S.Pops v l f y

  -- what a step does to the stack is the same wherever it is taken: it keeps it, pushes a frame or pops one
  pub record HaveKinds : Type 0 where
    pub keeps_or_pushes : (k : Step) (x y v z : State) (f : Frame) → S.Keeps x k y → S.Pushes v k f z → ⊥
    pub keeps_or_pops : (k : Step) (x y v z : State) (f : Frame) → S.Keeps x k y → S.Pops v k f z → ⊥
    pub pushes_or_pops : (k : Step) (x y v z : State) (f g : Frame) → S.Pushes x k f y → S.Pops v k g z → ⊥

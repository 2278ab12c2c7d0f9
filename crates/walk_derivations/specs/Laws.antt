-- The statements on derivations, segments and their endings.
use Rattle.std.specs.Prelude.{◌≡◌, ◌⊎◌, List, []}
use Rattle.walk_grammar.specs.System.{System, Run}
use Rattle.walk_derivations.specs.Derivations.{Derivation, steps_of, Derives}
use Rattle.walk_derivations.specs.Endings.{Ending, EndsAs}

module _ {State Frame Step : Type 0} (S : System State Frame Step) where
  -- the steps of each derivation are a segment
  abbrev pub MakeSegments : Type 0
  MakeSegments = (x : State) (d : Derivation Step) (y : State) → Derives S x d y → Run S x [] (steps_of d) y []

  -- each segment is the steps of a derivation
  abbrev pub HaveDerivations : Type 0
  HaveDerivations = (x : State) (ks : List Step) (y : State) → Run S x [] ks y [] → (d : Derivation Step) × Derives S x d y × (steps_of d ≡ ks)

  -- derivations of the same steps are the same
  abbrev pub DifferInSteps : Type 0
  DifferInSteps = (x y v z : State) (d other : Derivation Step) → Derives S x d y → Derives S v other z → steps_of d ≡ steps_of other → d ≡ other

  -- a segment has no steps, or it ends in some way, and in no other: not even as a segment between other states
  abbrev pub EndInOneWay : Type 0
  EndInOneWay = (x : State) (ks : List Step) (y : State) → Run S x [] ks y []
      → (ks ≡ []) ⊎ ((e : Ending Step) × EndsAs S x ks y e × ((v z : State) (other : Ending Step) → EndsAs S v ks z other → other ≡ e))

-- Walks of a machine, by the hops of their steps.
use Rattle.std.specs.Prelude.{◌≡◌, ◌<◌, ◌++◌, ◌∷◌, [], List, length}
use Rattle.std.specs.List.{All, AllZip}
use Rattle.ml_base.specs.declared.numbers.StepNo.{StepNo}
use Rattle.circuit_spec.specs.Network.{Topology}
use Rattle.k_answers.specs.declared.answer.KHops.{KHops}
use Rattle.k_cheapest.specs.declared.found.KWalk.{KWalk}
use Rattle.k_cheapest.specs.KLists.{numbers_of}
use Rattle.machine_build.specs.Built.{BuiltValue}
use Rattle.machine_lift.specs.Lift.{AreHopsAt}

-- the steps of the walks are those of the machine
abbrev pub AreWithin : BuiltValue → List KWalk → Type 0
AreWithin b found = All (λ (v : KWalk). All (λ (k : StepNo). k.0 < length b.machine.steps) v.steps) found

-- the hops of the walk's steps, with its weight
pub record IsWalkOf (T : Topology) (b : BuiltValue) (v : KWalk) (w : KHops) : Type 0 where
  pub weight : w.weight ≡ v.weight
  pub hops : AreHopsAt T b (numbers_of v.steps) w.hops

-- the walks have one more, that of the steps
pub record AddsWalk (T : Topology) (b : BuiltValue) (v : KWalk) (old new : List KHops) : Type 0 where
  pub walk : KHops
  pub is_walk : IsWalkOf T b v walk
  pub added : new ≡ old ++ walk ∷ []

-- a walk for each, in the same order
abbrev pub AreWalksOf : Topology → BuiltValue → List KWalk → List KHops → Type 0
AreWalksOf T b found walks = AllZip (IsWalkOf T b) found walks

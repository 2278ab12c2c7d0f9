-- Lines of the pairs of a machine.
use Rattle.std.specs.Prelude.{◌≡◌, ◌++◌, ◌∷◌, [], List, length}
use Rattle.std.specs.List.{All, AllZip}
use Rattle.segment_grammar.specs.declared.potentials.Pot.{Pot}
use Rattle.answer_spec.specs.declared.answer.PotLine.{PotLine}
use Rattle.answer_spec.specs.Potentials.{root_place}
use Rattle.knuth_search.specs.Derived.{IsPotWithin}
use Rattle.machine_build.specs.Built.{BuiltValue, IsState}
use Rattle.machine_lift.specs.Lift.{IsRootAt}

-- the pairs are of states of the machine
abbrev pub AreWithin : BuiltValue → List Pot → Type 0
AreWithin b pots = All (IsPotWithin (length b.places)) pots

-- the line has the root and the place that the pair is at, and its weight
pub record IsLineOf (b : BuiltValue) (p : Pot) (line : PotLine) : Type 0 where
  pub root : IsRootAt b p.root (root_place line.root)
  pub place : IsState b p.state line.place
  pub weight : line.weight ≡ p.weight

-- the lines have one more, that of the pair
pub record AddsLine (b : BuiltValue) (p : Pot) (old new : List PotLine) : Type 0 where
  pub line : PotLine
  pub is_line : IsLineOf b p line
  pub added : new ≡ old ++ line ∷ []

-- a line for each pair, in the same order
abbrev pub AreLinesOf : BuiltValue → List Pot → List PotLine → Type 0
AreLinesOf b pots lines = AllZip (IsLineOf b) pots lines

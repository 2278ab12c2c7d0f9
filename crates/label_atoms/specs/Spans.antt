-- The labels of names, as ranges.
use Rattle.std.specs.Prelude.{◌≡◌, ℕ, ◌-◌, ◌^◌, ◌&&◌, nat_lt, nat_eq, min, List, [], ◌∷◌, if◌then◌else◌, option_map, unwrap_or, Vec}
use Rattle.std.specs.BTreeMap as tree
use Rattle.std.specs.Ordering.{nat_cmp}
use Rattle.std.specs.declared.collections.BTreeMap.{BTreeMap}
use Rattle.std.specs.declared.alloc.Global.{Global}
use Rattle.label_sets.specs.Ranges.{has, AreProper, IsSetOf}
use Rattle.label_atoms.specs.declared.pieces.Piece.{Piece}
use Rattle.label_atoms.specs.Pieces.{name_at}

-- the labels from the start to the end, the end left out
abbrev pub span : ℕ → ℕ → List (ℕ × ℕ)
span start end = if nat_lt start (min end (2 ^ 32)) then (start, min end (2 ^ 32) - 1) ∷ [] else []

-- the ranges of a name
abbrev pub ranges_of : BTreeMap ℕ (Vec (ℕ × ℕ) Global) Global → ℕ → List (ℕ × ℕ)
ranges_of ranges name = unwrap_or (option_map (λ (own : Vec (ℕ × ℕ) Global). own.items) (tree.get nat_cmp ranges name)) []

-- the ranges have the labels to which the pieces give the name
pub record AreRangesOf (pieces : List Piece) (name : ℕ) (ranges : List (ℕ × ℕ)) : Type 0 where
  pub proper : AreProper ranges
  pub labels : (n : ℕ) → has ranges n ≡ (nat_lt n (2 ^ 32) && nat_eq (name_at pieces n) name)

-- the sets are those of the names, one by one
abbrev pub AreSetsOf : BTreeMap ℕ (Vec (ℕ × ℕ) Global) Global → List ℕ → List (List (ℕ × ℕ)) → Type 0
AreSetsOf ranges [] [] = Unit {0}
AreSetsOf ranges [] (set ∷ sets) = ⊥
AreSetsOf ranges (name ∷ names) [] = ⊥
AreSetsOf ranges (name ∷ names) (set ∷ sets) = IsSetOf (has (ranges_of ranges name)) set × AreSetsOf ranges names sets

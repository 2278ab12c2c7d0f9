-- Kept labels by label type.
--   labels_in      the kept labels of a label type
--   keeping_of     each label in the place of its keeper
--   IsKeptTable    the table is that of a topology and a request
use Rattle.std.specs.Prelude.{◌≡◌, ◌⊎◌, ◌↔◌, ℕ, List, [], ◌∷◌, false, IsTrue, Option, option_and_then, option_map, unwrap_or, find, map}
use Rattle.std.specs.Str.{bytes_eq}
use Rattle.nml_elements.specs.declared.elements.LinkE.{LinkE}
use Rattle.label_atoms.specs.Alike.{Climbing, KeptLabels, keeper_of}
use Rattle.label_atoms.specs.Pieces.{IsAmong}
use Rattle.circuit_spec.specs.declared.hops.Request.{Request}
use Rattle.circuit_spec.specs.Network.{Name, Topology, Port, names}
use Rattle.circuit_spec.specs.Kept.{IsClassOfType, IsKept, IsLinkOfType}
use Rattle.circuit_spec.specs.Keeping.{GivesKeepers, Keeping}

-- a label type, and its kept labels with the keeper of each label
pub record KeptOfType : Type 0 where
  pub labeltype : Name
  pub kept : KeptLabels

-- what a table has of a label type
abbrev pub row_of_type : List KeptOfType → Name → Option KeptOfType
row_of_type table labeltype = find (λ row. bytes_eq row.labeltype labeltype) table

-- the kept labels of a label type, none where the table does not have it
abbrev pub labels_in : List KeptOfType → Name → List ℕ
labels_in table labeltype = unwrap_or (option_map (λ (row : KeptOfType). row.kept.labels) (row_of_type table labeltype)) []

-- each label in the place of its keeper, where it has one
abbrev pub keeping_of : List KeptOfType → Keeping
keeping_of table labeltype label =
    unwrap_or (option_and_then (λ (row : KeptOfType). keeper_of row.kept label) (row_of_type table labeltype)) label

-- the label types of a table, in its order
abbrev pub types_in : List KeptOfType → List Name
types_in table = map (λ (row : KeptOfType). row.labeltype) table

-- no name stands twice in the list
abbrev pub AreOnce : List Name → Type 0
AreOnce [] = Unit {0}
AreOnce (x ∷ xs) = (names xs x ≡ false) × AreOnce xs

-- a class or a link has the label type
abbrev pub IsTypeOfSome : Topology → Name → Type 0
IsTypeOfSome T labeltype = ((class : Port) × IsClassOfType T labeltype class) ⊎ ((link : LinkE) × IsLinkOfType T labeltype link)

-- the table has the kept labels of each label type, rising, and the keepers of all labels that are in a set; its label types are
-- those that a class or a link has, each once
pub record IsKeptTable (T : Topology) (r : Request) (table : List KeptOfType) : Type 0 where
  pub rise : (labeltype : Name) → Climbing 0 (labels_in table labeltype)
  pub labels_are : (labeltype : Name) (label : ℕ) → IsAmong (labels_in table labeltype) label ↔ IsKept T r labeltype label
  pub keepers : GivesKeepers T r (keeping_of table)
  pub types_are : (labeltype : Name) → IsTrue (names (types_in table) labeltype) ↔ IsTypeOfSome T labeltype
  pub once : AreOnce (types_in table)

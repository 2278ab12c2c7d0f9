-- What a table holds.
use Rattle.std.specs.Prelude.{◌≡◌, List, [], ◌∷◌, map}
use Rattle.std.specs.List.{AllByRecursion}
use Rattle.circuit_spec.specs.Network.{Name}
use Rattle.label_atoms.specs.Alike.{AreKept, Climbing}
use Rattle.kept_table.specs.declared.gathered.TypeTests.{TypeTests}
use Rattle.kept_table.specs.declared.table.KeptRow.{KeptRow}
use Rattle.kept_table.specs.Gathering.{types_of}
use Rattle.kept_table.specs.Table.{AreOnce, KeptOfType}

-- the row as contracts see it
abbrev pub row_of : KeptRow → KeptOfType
row_of row = record { labeltype = row.labeltype; kept = row.kept }

-- the label types are those of the rows, and the kept labels of each row rise
pub record AreRows (types : List Name) (rows : List KeptRow) : Type 0 where
  pub types_are : types ≡ map (λ (row : KeptRow). row.labeltype) rows
  pub rise : AllByRecursion (λ (row : KeptRow). Climbing 0 row.kept.labels) rows

-- the row has the kept labels of what was gathered of a label type
pub record IsRowOf (tests : TypeTests) (row : KeptRow) : Type 0 where
  pub typed : row.labeltype ≡ tests.labeltype
  pub are_kept : AreKept tests.sets tests.singles row.kept

-- the rows are those of what was gathered, one by one
abbrev pub AreRowsOf : List TypeTests → List KeptRow → Type 0
AreRowsOf [] [] = Unit {0}
AreRowsOf [] (row ∷ rows) = ⊥
AreRowsOf (tests ∷ all) [] = ⊥
AreRowsOf (tests ∷ all) (row ∷ rows) = IsRowOf tests row × AreRowsOf all rows

-- the table is that of what was gathered, each label type once
pub record IsTableOf (all : List TypeTests) (table : List KeptOfType) : Type 0 where
  pub rows : List KeptRow
  pub are_rows : AreRowsOf all rows
  pub table_is : table ≡ map row_of rows
  pub once : AreOnce (types_of all)

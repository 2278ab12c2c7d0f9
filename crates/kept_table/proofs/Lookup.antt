-- The row of a label type in a table.
use Rattle.std.proofs.Common.{◌≡◌, ℕ, List, [], ◌∷◌, Bool, true, false, cond, Option, None, Some, map, refl, ◌∙◌, ap}
use Rattle.std.specs.Prelude.{slice_get, option_map, unwrap_or}
use Rattle.std.specs.Option.{option_and_then}
use Rattle.std.specs.List.{find}
use Rattle.std.specs.Str.{bytes_eq}
use Rattle.circuit_spec.specs.Network.{Name}
use Rattle.nml_inventory.specs.Numbers.{number_in}
use Rattle.nml_inventory.proofs.Names.{find_number}
use Rattle.kept_table.specs.declared.table.KeptRow.{KeptRow}
use Rattle.kept_table.specs.Table.{KeptOfType, labels_in, row_of_type}
use Rattle.kept_table.specs.Rows.{row_of}

abbrev pub row_type : KeptRow → Name
row_type row = row.labeltype

found_by : (b : Bool) (row : KeptRow) (found : Option KeptOfType) (later : Option KeptRow) → found ≡ option_map row_of later → cond b (Some (row_of row)) found ≡ option_map row_of (cond b (Some row) later)
found_by true row found later e = refl
found_by false row found later e = e

-- the search of a table is that of its rows
pub row_found : (rows : List KeptRow) (t : Name) → row_of_type (map row_of rows) t ≡ option_map row_of (find (λ row. bytes_eq (row_type row) t) rows)
row_found [] t = refl
row_found (row ∷ rows) t = found_by (bytes_eq row.labeltype t) row (row_of_type (map row_of rows) t) (find (λ x. bytes_eq (row_type x) t) rows) (row_found rows t)

abbrev labels_of : Option KeptOfType → List ℕ
labels_of found = unwrap_or (option_map (λ (row : KeptOfType). row.kept.labels) found) []

number_row : (rows : List KeptRow) (t : Name) (o : Option ℕ) → number_in (map row_type rows) t ≡ o → labels_in (map row_of rows) t ≡ labels_of (option_map row_of (option_and_then (λ n. slice_get rows n) o))
number_row rows t o e =
    ap labels_of (row_found rows t ∙ ap (option_map row_of) (find_number row_type rows t ∙ ap (option_and_then (λ n. slice_get rows n)) e))

-- the labels at the place of a label type
pub labels_some : (rows : List KeptRow) (t : Name) (n : ℕ) (row : KeptRow) → number_in (map row_type rows) t ≡ Some n → slice_get rows n ≡ Some row → labels_in (map row_of rows) t ≡ row.kept.labels
labels_some rows t n row e at = number_row rows t (Some n) e ∙ ap (λ (o : Option KeptRow). labels_of (option_map row_of o)) at

-- none where there is no place
pub labels_none : (rows : List KeptRow) (t : Name) → number_in (map row_type rows) t ≡ None → labels_in (map row_of rows) t ≡ []
labels_none rows t e = number_row rows t None e

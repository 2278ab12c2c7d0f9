-- Numbers by id: a list with the ids in the order of their bytes.
use Rattle.std.specs.Prelude.{◌≡◌, ℕ, List, Option}
use Rattle.std.specs.BTreeMap.{insert_entry, is_at}
use Rattle.std.specs.Map.{lookup}
use Rattle.std.specs.Ordering.{nat_cmp}
use Rattle.std.specs.declared.cmp.Ordering.{Ordering}
use Rattle.std.specs.Cmp.Lexicographic.{slice_cmp}
use Rattle.std.specs.Option.{is_none}
use Rattle.line_text.specs.Fields.{Word, kept_if}

-- ids in the order of their bytes
abbrev pub id_cmp : Word → Word → Ordering
id_cmp a b = slice_cmp nat_cmp a b

abbrev pub Numbers : Type 0
Numbers = List (Word × ℕ)

-- the number of an id
abbrev pub number_at : Numbers → Word → Option ℕ
number_at numbers id = lookup (is_at (id_cmp id)) numbers

-- the numbers with that of one id more, at its place in the order
abbrev pub with_number : Numbers → Word → ℕ → Numbers
with_number numbers id n = insert_entry id_cmp numbers id n

-- the same, where the id has no number yet
abbrev pub added : Numbers → Word → ℕ → Option Numbers
added numbers id n = kept_if (is_none (number_at numbers id)) (with_number numbers id n)

-- The rows of what is gathered are the table of the kept labels.
use Rattle.std.proofs.Common.{◌≡◌, ◌↔◌, ℕ, inl, inr, List, [], ◌∷◌, ◌++◌, Bool, true, false, ◌||◌, cond, Option, None, Some, map, refl, sym, ◌∙◌, ap, subst}
use Rattle.std.specs.Prelude.{option_map, unwrap_or}
use Rattle.std.specs.Option.{MatchOption, option_and_then}
use Rattle.std.specs.List.{AllByRecursion, find}
use Rattle.std.specs.Str.{bytes_eq}
use Rattle.label_atoms.specs.Alike as atoms
use Rattle.label_atoms.specs.Alike.{Climbing, KeptLabels, in_some, keeper_of}
use Rattle.label_atoms.specs.Pieces.{IsAmong}
use Rattle.circuit_spec.specs.declared.hops.Request.{Request}
use Rattle.circuit_spec.specs.Network.{Name, Topology, names}
use Rattle.circuit_spec.specs.Kept.{IsInSomeSet, IsKept, IsKeeper}
use Rattle.nml_inventory.proofs.Gets.{map_twice}
use Rattle.kept_table.specs.declared.gathered.TypeTests.{TypeTests}
use Rattle.kept_table.specs.declared.table.KeptRow.{KeptRow}
use Rattle.kept_table.specs.Table.{AreOnce, IsKeptTable, IsTypeOfSome, KeptOfType, row_of_type, types_in}
use Rattle.kept_table.specs.Rows.{AreRows, AreRowsOf, IsRowOf, IsTableOf, row_of}
use Rattle.kept_table.specs.Gathering.{is_type, sets_of, singles_of, types_of}
use Rattle.kept_table.proofs.Lookup.{row_found, row_type}
use Rattle.kept_table.proofs.Telling.{IsAll, class_set, kept_from_spec, kept_to, keeper_to, link_set, some_from}

-- Rows beside what was gathered

pub rows_more : (all : List TypeTests) (rows : List KeptRow) (tests : TypeTests) (row : KeptRow) → AreRowsOf all rows → IsRowOf tests row → AreRowsOf (all ++ tests ∷ []) (rows ++ row ∷ [])
rows_more [] [] tests row so_far here = (here, tt)
rows_more [] (x ∷ rows) tests row so_far here = absurd so_far
rows_more (x ∷ all) [] tests row so_far here = absurd so_far
rows_more (x ∷ all) (y ∷ rows) tests row so_far here = (so_far.0, rows_more all rows tests row so_far.1 here)

pub same_types : (all : List TypeTests) (rows : List KeptRow) → AreRowsOf all rows → types_of all ≡ map row_type rows
same_types [] [] h = refl
same_types [] (y ∷ rows) h = absurd h
same_types (x ∷ all) [] h = absurd h
same_types (x ∷ all) (y ∷ rows) h = ap (λ (t : Name). t ∷ types_of all) (sym h.0.typed) ∙ ap (λ (ts : List Name). y.labeltype ∷ ts) (same_types all rows h.1)

pub rows_rise : (all : List TypeTests) (rows : List KeptRow) → AreRowsOf all rows → AllByRecursion (λ (row : KeptRow). Climbing 0 row.kept.labels) rows
rows_rise [] [] h = tt
rows_rise [] (y ∷ rows) h = absurd h
rows_rise (x ∷ all) [] h = absurd h
rows_rise (x ∷ all) (y ∷ rows) h = (h.0.are_kept.rise, rows_rise all rows h.1)

-- the rows of a table that is made of what was gathered
pub rows_are : (types : List Name) (all : List TypeTests) (rows : List KeptRow) → types ≡ types_of all → AreRowsOf all rows → AreRows types rows
rows_are types all rows e h = record { types_are = e ∙ same_types all rows h; rise = rows_rise all rows h }

-- The row of a label type

abbrev FoundBoth : Option TypeTests → Option KeptRow → Type 0
FoundBoth None None = Unit {0}
FoundBoth None (Some row) = ⊥
FoundBoth (Some tests) None = ⊥
FoundBoth (Some tests) (Some row) = IsRowOf tests row

abbrev row_at : List KeptRow → Name → Option KeptRow
row_at rows u = find (λ row. bytes_eq (row_type row) u) rows

both_by : (x : TypeTests) (y : KeptRow) (u : Name) (o : Option TypeTests) (p : Option KeptRow) (b : Bool) → IsRowOf x y → bytes_eq x.labeltype u ≡ b → FoundBoth o p → FoundBoth (cond (bytes_eq x.labeltype u) (Some x) o) (cond (bytes_eq y.labeltype u) (Some y) p)
both_by x y u o p b here e later =
    subst (λ (c : Bool). FoundBoth (cond c (Some x) o) (cond (bytes_eq y.labeltype u) (Some y) p)) (sym e)
    (subst (λ (c : Bool). FoundBoth (cond b (Some x) o) (cond c (Some y) p)) (sym (ap (λ (t : Name). bytes_eq t u) here.typed ∙ e)) (by b))
  where
    by : (c : Bool) → FoundBoth (cond c (Some x) o) (cond c (Some y) p)
    by true = here
    by false = later

found_both : (all : List TypeTests) (rows : List KeptRow) (u : Name) → AreRowsOf all rows → FoundBoth (find (is_type u) all) (row_at rows u)
found_both [] [] u h = tt
found_both [] (y ∷ rows) u h = absurd h
found_both (x ∷ all) [] u h = absurd h
found_both (x ∷ all) (y ∷ rows) u h = both_by x y u (find (is_type u) all) (row_at rows u) (bytes_eq x.labeltype u) h.0 refl (found_both all rows u h.1)

-- what a table says of one label type
record IsToldOf (T : Topology) (r : Request) (u : Name) (row : Option KeptOfType) : Type 0 where
  rise : Climbing 0 (unwrap_or (option_map (λ (x : KeptOfType). x.kept.labels) row) [])
  labels_are : (n : ℕ) → IsAmong (unwrap_or (option_map (λ (x : KeptOfType). x.kept.labels) row) []) n ↔ IsKept T r u n
  keepers : (n : ℕ) → IsInSomeSet T u n → IsKeeper T r u n (unwrap_or (option_and_then (λ (x : KeptOfType). keeper_of x.kept n) row) n)

sets_at : (all : List TypeTests) (u : Name) (o : Option TypeTests) → find (is_type u) all ≡ o → sets_of all u ≡ unwrap_or (option_map (λ (x : TypeTests). x.sets) o) []
sets_at all u o e = ap (λ (x : Option TypeTests). unwrap_or (option_map (λ (y : TypeTests). y.sets) x) []) e

singles_at : (all : List TypeTests) (u : Name) (o : Option TypeTests) → find (is_type u) all ≡ o → singles_of all u ≡ unwrap_or (option_map (λ (x : TypeTests). x.singles) o) []
singles_at all u o e = ap (λ (x : Option TypeTests). unwrap_or (option_map (λ (y : TypeTests). y.singles) x) []) e

keeper_by : (sets : List (List (ℕ × ℕ))) (singles : List ℕ) (n : ℕ) (o : Option ℕ) → in_some sets n ≡ true → MatchOption o (in_some sets n ≡ false) (atoms.IsKeeper sets singles n) → atoms.IsKeeper sets singles n (unwrap_or o n)
keeper_by sets singles n None some m = cc
keeper_by sets singles n (Some k) some m = m

told : (T : Topology) (r : Request) (all : List TypeTests) (u : Name) (o : Option TypeTests) (p : Option KeptRow) → IsAll T r all → find (is_type u) all ≡ o → FoundBoth o p → IsToldOf T r u (option_map row_of p)
told T r all u None None g e h = record {
  rise = tt;
  labels_are = λ n. ((λ none. absurd none), (λ k. no_set n (some_from T r all u n g k.meets)));
  keepers = λ n some. absurd (no_set n (some_from T r all u n g some));
} where
  no_set : (n : ℕ) → in_some (sets_of all u) n ≡ true → ⊥
  no_set n some = let none : in_some (sets_of all u) n ≡ false = ap (λ (sets : List (List (ℕ × ℕ))). in_some sets n) (sets_at all u None e) in cc
told T r all u None (Some row) g e h = absurd h
told T r all u (Some tests) None g e h = absurd h
told T r all u (Some tests) (Some row) g e h = record {
  rise = are.rise;
  labels_are = λ n. ((λ among. kept_to T r all u n g ((are.labels n).0 among)), (λ k. (are.labels n).1 (kept_from_spec T r all u n g k)));
  keepers = λ n some. keeper_to T r all u n (unwrap_or (keeper_of row.kept n) n) g (keeper_by (sets_of all u) (singles_of all u) n (keeper_of row.kept n) (some_from T r all u n g some) (are.keepers n));
} where
  are : atoms.AreKept (sets_of all u) (singles_of all u) row.kept
  are =
      subst (λ (sets : List (List (ℕ × ℕ))). atoms.AreKept sets (singles_of all u) row.kept) (sym (sets_at all u (Some tests) e))
      (subst (λ (singles : List ℕ). atoms.AreKept tests.sets singles row.kept) (sym (singles_at all u (Some tests) e)) h.are_kept)

-- The label types of a table

named_by : (x : TypeTests) (all : List TypeTests) (u : Name) (set : List (ℕ × ℕ)) (b : Bool) → (IsAmong (sets_of all u) set → names (types_of all) u ≡ true) → IsAmong (unwrap_or (option_map (λ (y : TypeTests). y.sets) (cond b (Some x) (find (is_type u) all))) []) set → (b || names (types_of all) u) ≡ true
named_by x all u set true later among = refl
named_by x all u set false later among = later among

-- a label type of which a set is gathered is named
named : (all : List TypeTests) (u : Name) (set : List (ℕ × ℕ)) → IsAmong (sets_of all u) set → names (types_of all) u ≡ true
named [] u set among = absurd among
named (x ∷ all) u set among = named_by x all u set (bytes_eq x.labeltype u) (named all u set) among

type_named : (T : Topology) (r : Request) (all : List TypeTests) (u : Name) → IsAll T r all → IsTypeOfSome T u → names (types_of all) u ≡ true
type_named T r all u g (inl (class, is)) = let s = class_set T r all u class g is in named all u s.0 s.1
type_named T r all u g (inr (link, is)) = let s = link_set T r all u link g is in named all u s.0 s.1

table_told : (T : Topology) (r : Request) (all : List TypeTests) (rows : List KeptRow) → IsAll T r all → AreOnce (types_of all) → AreRowsOf all rows → IsKeptTable T r (map row_of rows)
table_told T r all rows g once h = record {
  rise = λ u. (at u).rise;
  labels_are = λ u. (at u).labels_are;
  keepers = λ u. (at u).keepers;
  types_are = λ u. ((λ n. g.only_types u (ap (λ (ts : List Name). names ts u) types ∙ n)), (λ is. sym (ap (λ (ts : List Name). names ts u) types) ∙ type_named T r all u g is));
  once = subst AreOnce types once;
} where
  types : types_of all ≡ types_in (map row_of rows)
  types = same_types all rows h ∙ sym (map_twice (λ (row : KeptOfType). row.labeltype) row_of rows)

  at : (u : Name) → IsToldOf T r u (row_of_type (map row_of rows) u)
  at u = subst (IsToldOf T r u) (sym (row_found rows u)) (told T r all u (find (is_type u) all) (row_at rows u) g refl (found_both all rows u h))

-- where all is gathered, its table is that of the kept labels
pub table_of : (T : Topology) (r : Request) (all : List TypeTests) (table : List KeptOfType) → IsAll T r all → IsTableOf all table → IsKeptTable T r table
table_of T r all table g t = subst (IsKeptTable T r) (sym t.table_is) (table_told T r all t.rows g t.once t.are_rows)

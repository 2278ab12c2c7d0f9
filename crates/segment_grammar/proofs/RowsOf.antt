-- Lists of lists seen as rows.
use Rattle.std.proofs.Common.{◌≡◌, ℕ, ◌+◌, ◌-◌, ◌<◌, ◌≤◌, inl, inr, List, [], ◌∷◌, ◌++◌, length, map, Result, Ok, Err, OnErr, refl, sym, ◌∙◌, ap, subst, arith}
use Rattle.std.proofs.Math.ListN.{set, get_or, length-set}
use Rattle.std.proofs.lemmas.List.{map-set, get_or-map, length-map, map-append, length-append, length-replicate, append-nil, append_assoc, set-append_left, replicate-append-replicate, get_or_append_left}
use Rattle.std.proofs.Math.Seq.{map-set_same}
use Rattle.segment_grammar.specs.Rows.{with_item, no_rows, row_of, filled_up, IsGrown}

-- a push into one of the lists, seen as the rows
rows_added : {X T : Type 0} (f : X → List T) (vs : List X) (i : ℕ) (v w : X) (x : T) → i < length vs
    → v ≡ get_or vs i v → f w ≡ f v ++ x ∷ [] → map f (set vs i w) ≡ with_item (map f vs) i x
rows_added f vs i v w x below at pushed =
    let here : get_or (map f vs) i [] ≡ f v = get_or-map f vs i v [] below ∙ ap f (sym at) in
    map-set f vs i w ∙ ap (λ r. set (map f vs) i r) (pushed ∙ ap (λ r. r ++ x ∷ []) (sym here))

rows_length : {T : Type 0} (rows : List (List T)) (more : ℕ) → length (rows ++ no_rows more) ≡ length rows + more
rows_length rows more = length-append rows (no_rows more) ∙ ap (λ n. length rows + n) (length-replicate more [])

-- empty rows are opened behind the others
pub grown_begun : {T : Type 0} (rows : List (List T)) (count : ℕ) → IsGrown rows count rows
grown_begun rows count = record { more = 0; few = inl refl; are = sym (append-nil rows) }

grown_turn : {T : Type 0} (old : List (List T)) (count : ℕ) (new : List (List T)) → length new < count → IsGrown old count new → IsGrown old count (new ++ [] ∷ [])
grown_turn old count new below is = record {
  more = is.more + 1;
  few = inr (let long : length new ≡ length old + is.more = ap (λ l. length l) is.are ∙ rows_length old is.more in omega arith);
  are = ap (λ l. l ++ [] ∷ []) is.are ∙ append_assoc old (no_rows is.more) ([] ∷ []) ∙ ap (λ l. old ++ l) (replicate-append-replicate is.more 1 []);
}

-- an empty list is put behind the others
pub grown_push : {X T : Type 0} (f : X → List T) (olds news after : List X) (count n : ℕ) (v : X) → f v ≡ [] → after ≡ news ++ v ∷ [] → n ≡ length news → n < count
    → IsGrown (map f olds) count (map f news) → IsGrown (map f olds) count (map f after)
grown_push f olds news after count n v none are long below is =
    let few : length (map f news) < count = omega (arith, long, below, length-map news f) in
    subst (λ l. IsGrown (map f olds) count l) (sym (ap (λ l. map f l) are ∙ map-append f news (v ∷ []) ∙ ap (λ l. map f news ++ l ∷ []) none))
    (grown_turn (map f olds) count (map f news) few is)

-- how many there are, and what is seen of them, with empty rows behind them
pub filled_length : {T : Type 0} (count : ℕ) (rows : List (List T)) → length rows ≤ count → length (filled_up count rows) ≡ count
filled_length count rows within = rows_length rows (count - length rows) ∙ omega (arith, within)

module _ {T : Type 0} (old new : List (List T)) (few count : ℕ) (within : length old ≤ count) (at_most : few ≤ count) (grown : IsGrown old few new) where
  new_length : length new ≡ length old + grown.more
  new_length = ap (λ l. length l) grown.are ∙ rows_length old grown.more

  sum_within : length old + grown.more ≤ count
  sum_within = elim grown.few as (λ v. length old + grown.more ≤ count) [ inl e ↦ omega (arith, within, e) | inr l ↦ omega (arith, l, at_most) ]

  pub grown_within : length new ≤ count
  grown_within = omega (arith, new_length, sum_within)

  pub grown_same : filled_up count new ≡ filled_up count old
  grown_same =
      let size : grown.more + (count - length new) ≡ count - length old = omega (arith, new_length, sum_within) in
      ap (λ l. l ++ no_rows (count - length new)) grown.are ∙ append_assoc old (no_rows grown.more) (no_rows (count - length new))
      ∙ ap (λ l. old ++ l) (replicate-append-replicate grown.more (count - length new) []) ∙ ap (λ n. old ++ no_rows n) size

-- an item in one of the rows that are there
pub filled_item : {T : Type 0} (count : ℕ) (rows : List (List T)) (row : ℕ) (x : T) → row < length rows → filled_up count (with_item rows row x) ≡ with_item (filled_up count rows) row x
filled_item count rows row x below =
    let rest : List (List _) = no_rows (count - length rows) in
    let there : row_of (rows ++ rest) row ≡ row_of rows row = get_or_append_left rows rest [] row below in
    ap (λ n. set rows row (row_of rows row ++ x ∷ []) ++ no_rows (count - n)) (length-set rows row (row_of rows row ++ x ∷ []))
    ∙ sym (set-append_left rows rest row (row_of rows row ++ x ∷ []) below)
    ∙ ap (λ r. set (rows ++ rest) row (r ++ x ∷ [])) (sym there)

-- a row is opened where it is not there, and an item is put into it
module _ {X T : Type 0} (f : X → List T) (olds news : List X) (count : ℕ) (within : length olds ≤ count) (seen : List (List T)) (is : filled_up count (map f olds) ≡ seen)
    (row : ℕ) (here : row < length seen) (grown : IsGrown (map f olds) (row + 1) (map f news)) where
  olds_within : length (map f olds) ≤ count
  olds_within = omega (arith, within, length-map olds f)

  row_within : row + 1 ≤ count
  row_within =
      let long : length seen ≡ count = sym (ap (λ l. length l) is) ∙ filled_length count (map f olds) olds_within in
      omega (arith, here, long)

  pub news_within : length news ≤ count
  news_within = omega (arith, grown_within (map f olds) (map f news) (row + 1) count olds_within row_within grown, length-map news f)

  pub same_seen : filled_up count (map f news) ≡ seen
  same_seen = grown_same (map f olds) (map f news) (row + 1) count olds_within row_within grown ∙ is

  pub item_added : (v w : X) (x : T) → row < length news → v ≡ get_or news row v → f w ≡ f v ++ x ∷ [] → filled_up count (map f (set news row w)) ≡ with_item seen row x
  item_added v w x below at pushed =
      let there : row < length (map f news) = omega (arith, below, length-map news f) in
      ap (λ l. filled_up count l) (rows_added f news row v w x below at pushed) ∙ filled_item count (map f news) row x there ∙ ap (λ l. with_item l row x) same_seen

  pub item_refused : (v w : X) → v ≡ get_or news row v → f w ≡ f v → filled_up count (map f (set news row w)) ≡ seen
  item_refused v w at same = ap (λ l. filled_up count l) (map-set_same f news row w v (same ∙ ap f at)) ∙ same_seen

-- what holds of any answer holds of a refusal
pub in_any_case : {X E P : Type 0} (r : Result X E) → P → OnErr r P
in_any_case (Ok x) p = tt
in_any_case (Err e) p = p

-- Lists of values that a loop builds.
use Rattle.std.proofs.Common.{◌≡◌, ℕ, ◌+◌, ◌<◌, ◌≤◌, List, [], ◌∷◌, ◌++◌, length, take, get_or, refl, sym, ap, ◌∙◌, subst}
use Rattle.std.specs.List.{AllByRecursion}
use Rattle.std.proofs.lemmas.List.{take_more, take_all}
use Rattle.serde_json.specs.Data.{Data, Items, no_items, item, string}
use Rattle.serde_json.specs.View.{view, items_view}
use Rattle.serde_json.specs.declared.value.Value.{Value}
use Rattle.ml_base.specs.Text.{IsIdText}
use Rattle.nml_elements.specs.declared.elements.Entry.{Entry}
use Rattle.nml_elements.specs.Kept.{AreIds, KeepsEntry}
use Rattle.nml_elements.specs.ElementWriting.{texts, entry_data}
use Rattle.nml_elements.specs.FileWriting.{AreKept, entries_data}

abbrev then_one : Items → Data → Items
then_one no_items d = item d no_items
then_one (item e ds) d = item e (then_one ds d)

view_push : (values : List Value) (v : Value) → items_view (values ++ v ∷ []) ≡ then_one (items_view values) (view v)
view_push [] v = refl
view_push (x ∷ values) v = ap (item (view x)) (view_push values v)

all_push : {A : Type 0} (P : A → Type 0) (xs : List A) (x : A) → AllByRecursion P xs → P x → AllByRecursion P (xs ++ x ∷ [])
all_push P [] x all here = (here, tt)
all_push P (y ∷ xs) x all here = (all.0, all_push P xs x all.1 here)

-- ---- texts of ids

texts_push : (ids : List (List ℕ)) (id : List ℕ) → texts (ids ++ id ∷ []) ≡ then_one (texts ids) (string id)
texts_push [] id = refl
texts_push (x ∷ ids) id = ap (item (string x)) (texts_push ids id)

-- so many ids are written
pub record AreTexts (values : List Value) (ids : List (List ℕ)) (i : ℕ) : Type 0 where
  pub written : items_view values ≡ texts (take i ids)
  pub kept : AreIds (take i ids)

pub texts_more : (values : List Value) (ids : List (List ℕ)) (i : ℕ) (v : Value) (id : List ℕ) → AreTexts values ids i → i < length ids → id ≡ get_or ids i id
    → view v ≡ string id → IsIdText id → AreTexts (values ++ v ∷ []) ids (i + 1)
texts_more values ids i v id so_far h e is here =
    let next = take_more ids i id h ∙ ap (λ x. take i ids ++ x ∷ []) (sym e) in
    record {
      written = view_push values v ∙ ap (λ ds. then_one ds (view v)) so_far.written ∙ ap (then_one (texts (take i ids))) is ∙ sym (texts_push (take i ids) id) ∙ ap texts (sym next);
      kept = subst AreIds (sym next) (all_push IsIdText (take i ids) id so_far.kept here);
    }

pub texts_end : (values : List Value) (ids : List (List ℕ)) (i : ℕ) → AreTexts values ids i → length ids ≤ i → (items_view values ≡ texts ids) × AreIds ids
texts_end values ids i so_far h =
    let all = take_all i ids h in
    (so_far.written ∙ ap texts all, subst AreIds all so_far.kept)

-- ---- entries

entries_push : (entries : List Entry) (entry : Entry) → entries_data (entries ++ entry ∷ []) ≡ then_one (entries_data entries) (entry_data entry)
entries_push [] entry = refl
entries_push (x ∷ entries) entry = ap (item (entry_data x)) (entries_push entries entry)

pub record AreEntries (values : List Value) (entries : List Entry) (i : ℕ) : Type 0 where
  pub written : items_view values ≡ entries_data (take i entries)
  pub kept : AreKept (take i entries)

pub entries_more : (values : List Value) (entries : List Entry) (i : ℕ) (v : Value) (entry : Entry) → AreEntries values entries i → i < length entries → entry ≡ get_or entries i entry
    → view v ≡ entry_data entry → KeepsEntry entry → AreEntries (values ++ v ∷ []) entries (i + 1)
entries_more values entries i v entry so_far h e is here =
    let next = take_more entries i entry h ∙ ap (λ x. take i entries ++ x ∷ []) (sym e) in
    record {
      written = view_push values v ∙ ap (λ ds. then_one ds (view v)) so_far.written ∙ ap (then_one (entries_data (take i entries))) is
          ∙ sym (entries_push (take i entries) entry) ∙ ap entries_data (sym next);
      kept = subst AreKept (sym next) (all_push KeepsEntry (take i entries) entry so_far.kept here);
    }

pub entries_end : (values : List Value) (entries : List Entry) (i : ℕ) → AreEntries values entries i → length entries ≤ i → (items_view values ≡ entries_data entries) × AreKept entries
entries_end values entries i so_far h =
    let all = take_all i entries h in
    (so_far.written ∙ ap entries_data all, subst AreKept all so_far.kept)

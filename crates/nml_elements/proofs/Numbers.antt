-- The entries of a file have its elements' numbers.
use Rattle.std.proofs.Common.{◌≡◌, ℕ, suc, ◌+◌, ◌≤◌, List, [], ◌∷◌, length, Option, Some, None, Result, Ok, Err, refl, ap, arith, subst, Bool, true, false, cond, ltb}
use Rattle.std.proofs.lemmas.Bool.{ltb-false}
use Rattle.serde_json.specs.Data.{Data, Items, no_items, item}
use Rattle.serde_json.specs.Events.{items_len}
use Rattle.nml_elements.specs.declared.fault.MemberFault.{MemberFault}
use Rattle.nml_elements.specs.declared.fault.MemberFault.TheVariants.{Rule}
use Rattle.nml_elements.specs.declared.fault.ReadFault.{ReadFault}
use Rattle.nml_elements.specs.declared.living.Living.{Living}
use Rattle.nml_elements.specs.declared.elements.Entry.{Entry}
use Rattle.nml_elements.specs.Gives.{◌>>=◌}
use Rattle.nml_elements.specs.ElementReading.{element_at}
use Rattle.nml_elements.specs.FileReading.{AreNumbered, at_element, with_entry, entries_at, elements_part, array_from, array_at}

-- entries with numbers from n, at most so many
abbrev pub AreWithin : ℕ → ℕ → List Entry → Type 0
AreWithin n most entries = AreNumbered n entries × (length entries ≤ most)

later : (n m : ℕ) (entries : List Entry) → n ≤ m → AreNumbered m entries → AreNumbered n entries
later n m [] le up = tt
later n m (e ∷ rest) le up = (omega (arith, up.0), up.1, up.2)

with_one : (n most : ℕ) (found : Option Living) (entries : List Entry) → n ≤ 16777216 → AreWithin (n + 1) most entries → AreWithin n (suc most) (with_entry n found entries)
with_one n most None entries le up = (later n (n + 1) entries (omega arith) up.0, omega (arith, up.1))
with_one n most (Some living) entries le up = ((omega arith, le, up.0), omega (arith, up.1))

within_by : (n most : ℕ) (found : Result (Option Living) ReadFault) (read : Result (List Entry) ReadFault) (entries : List Entry) → n ≤ 16777216
    → ((rest : List Entry) → read ≡ Ok rest → AreWithin (n + 1) most rest)
    → (found >>= λ element. read >>= λ rest. Ok (with_entry n element rest)) ≡ Ok entries → AreWithin n (suc most) entries
within_by n most (Err e) read entries le up is = cc
within_by n most (Ok found) (Err e) entries le up is = cc
within_by n most (Ok found) (Ok rest) entries le up is =
    let same : with_entry n found rest ≡ entries = cc in
    subst (AreWithin n (suc most)) same (with_one n most found rest le (up rest refl))

pub entries_within : (n : ℕ) (ds : Items) (entries : List Entry) → n + items_len ds ≤ 16777217 → entries_at n ds ≡ Ok entries → AreWithin n (items_len ds) entries
unfolding entries_at
entries_within n no_items entries le is =
    let none : [] ≡ entries = cc in
    subst (AreWithin n 0) none (tt, omega arith)
entries_within n (item d ds) entries le is =
    within_by n (items_len ds) (at_element n (element_at d)) (entries_at (n + 1) ds) entries (omega (arith, le))
    (λ rest read. entries_within (n + 1) ds rest (omega (arith, le)) read) is

-- ---- a whole file

few_by : (ds items : Items) (b : Bool) → ltb 16777216 (items_len ds) ≡ b → ◌≡◌ {A = Result Items MemberFault} (cond b (Err (Rule 5)) (Ok ds)) (Ok items) → items_len items ≤ 16777216
few_by ds items true e is = cc
few_by ds items false e is =
    let same : ds ≡ items = cc in
    subst (λ xs. items_len xs ≤ 16777216) same (ltb-false 16777216 (items_len ds) e)

few_from : (o : Option Items) (items : Items) → array_from o ≡ Ok items → items_len items ≤ 16777216
few_from None items is = cc
few_from (Some ds) items is = few_by ds items (ltb 16777216 (items_len ds)) refl is

few_items : (d : Data) (items : Items) → array_at d ≡ Ok items → items_len items ≤ 16777216
unfolding array_at
few_items d items is = few_from (elements_part d) items is

located_ok : {X : Type 0} (n : ℕ) (read : Result X MemberFault) (x : X) → at_element n read ≡ Ok x → read ≡ Ok x
located_ok n (Ok y) x is = let same : y ≡ x = cc in ap Ok same
located_ok n (Err e) x is = cc

-- what is read of an array of elements
pub read_within : (d : Data) (items : Items) (entries : List Entry) → at_element 0 (array_at d) ≡ Ok items → entries_at 1 items ≡ Ok entries → AreWithin 1 16777216 entries
read_within d items entries found read =
    let few = few_items d items (located_ok 0 (array_at d) items found) in
    let within = entries_within 1 items entries (omega (arith, few)) read in
    (within.0, omega (arith, few, within.1))

-- What the calls of std say of a word.
use Rattle.std.proofs.Common.{◌≡◌, ◌∙◌, refl, sym, ap, subst, ℕ, ◌+◌, ◌-◌, ◌<◌, ◌≤◌, ◌^◌, List, [], ◌∷◌, length, take, drop, Bool, true, false, cond, not, ltb, Option, Some, None, Result, Ok, arith, inl, inr}
use Rattle.std.specs.Prelude.{decimal, nat_eq}
use Rattle.std.specs.List.{slice_split, position, position_or_len}
use Rattle.std.specs.Str.{IsAscii, IsUtf8, bytes_eq}
use Rattle.std.specs.Str.Parse.{AllDigits, ParsesUnsigned}
use Rattle.std.proofs.lemmas.Bool.{cases_lt}
use Rattle.std.proofs.lemmas.Bool.Decides.{nat_tests}
use Rattle.std.proofs.lemmas.Fmt.{decimal_is_IsNumeral, parse-decimal}
use Rattle.std.proofs.lemmas.List.{take_all, length-drop, get_or_past}
use Rattle.std.proofs.lemmas.List.Splits.{slice_split_first, slice_split_none}
use Rattle.std.proofs.lemmas.List.Sums.{fails_before_first}
use Rattle.std.proofs.lemmas.Str.{IsUtf8-from_ascii}
use Rattle.std.proofs.lemmas.Str.Parse.{digit_at}
use Rattle.ml_base.specs.Text.{IsIdText}
use Rattle.line_text.specs.Fields.{Word, number_of, kept_if, id_of}
use Rattle.place_names.specs.Names.{is_id}
use Rattle.std.proofs.lemmas.Slice.Eq.{bytes_eq-Decides}
use Rattle.line_text.proofs.Words.{number_field, kept}
use Rattle.place_names.proofs.Ids.{id_text, text_id}

-- ---- cutting at a mark

abbrev is_mark : ℕ → ℕ → Bool
is_mark mark b = nat_eq b mark

place_by : (p : ℕ → Bool) (bytes : List ℕ) (t : Bool) (i : ℕ) → ltb (position_or_len p bytes) (length bytes) ≡ t → cond t (Some (position_or_len p bytes)) None ≡ Some i → (position_or_len p bytes < length bytes) × (position_or_len p bytes ≡ i)
place_by p bytes true i test e = (grind (arith, nat_tests), cc)
place_by p bytes false i test e = absurd cc

pub cut_here : (mark : ℕ) (bytes : List ℕ) (at : ℕ) → position (λ b. nat_eq b mark) bytes ≡ Some at
    → slice_split (λ b. nat_eq b mark) bytes ≡ take at bytes ∷ slice_split (λ b. nat_eq b mark) (take (length bytes - (at + 1)) (drop (at + 1) bytes))
cut_here mark bytes at e =
    let p = place_by (λ b. nat_eq b mark) bytes (ltb (position_or_len (λ b. nat_eq b mark) bytes) (length bytes)) at refl e in
    slice_split_first (λ b. nat_eq b mark) bytes 0 p.0
    ∙ ap (λ (i : ℕ). take i bytes ∷ slice_split (λ b. nat_eq b mark) (drop (i + 1) bytes)) p.1
    ∙ ap (λ (bs : List ℕ). take at bytes ∷ slice_split (λ b. nat_eq b mark) bs) (sym (take_all (length bytes - (at + 1)) (drop (at + 1) bytes) (omega (arith, length-drop (at + 1) bytes))))

none_by : (p : ℕ → Bool) (bytes : List ℕ) (t : Bool) → ltb (position_or_len p bytes) (length bytes) ≡ t → cond t (Some (position_or_len p bytes)) None ≡ None → length bytes ≤ position_or_len p bytes
none_by p bytes true test e = absurd cc
none_by p bytes false test e = grind (arith, nat_tests)

pub uncut_here : (mark : ℕ) (bytes : List ℕ) → position (λ b. nat_eq b mark) bytes ≡ None → slice_split (λ b. nat_eq b mark) bytes ≡ bytes ∷ []
uncut_here mark bytes e =
    let far = none_by (λ b. nat_eq b mark) bytes (ltb (position_or_len (λ b. nat_eq b mark) bytes) (length bytes)) refl e in
    slice_split_none (λ b. nat_eq b mark) bytes (λ i d lt. fails_before_first (λ b. nat_eq b mark) bytes i d (omega (arith, far)))

-- ---- numbers

pub none_from : {A : Type 0} (o : Option A) → ((a : A) → o ≡ Some a → ⊥) → o ≡ None
none_from None h = refl
none_from (Some a) h = absurd (h a refl)

ascii_digits : (ds : List ℕ) → AllDigits 10 ds → IsAscii ds
ascii_digits ds h i =
    elim (cases_lt i (length ds)) [
      | inl lt ↦ let d = digit_at ds i h lt in omega (arith, d.0, d.1)
      | inr ge ↦ rw (get_or_past ds i 0 ge) (omega arith)
    ]

pub number_is : (limit : ℕ) (word : Word) (v : ℕ) → limit ≤ 2 ^ 64 → number_of limit word ≡ Some v → (word ≡ decimal v) × (v < limit) × IsUtf8 word
number_is limit word v most e =
    let f = (number_field limit most).found word v e in
    let digits = (decimal_is_IsNumeral v (omega (arith, f.1))).0 in
    (f.0, f.1, subst IsUtf8 (sym f.0) (IsUtf8-from_ascii (decimal v) (ascii_digits (decimal v) digits.1)))

-- a word that spells a number is parsed as that number
pub parsed : {E : Type 0} (limit : ℕ) (word text : Word) (r : Result ℕ E) (v : ℕ) → limit ≤ 2 ^ 64 → text ≡ word → ParsesUnsigned 64 10 text r → number_of limit word ≡ Some v → r ≡ Ok v
parsed limit word text r v most same parse e =
    let i = number_is limit word v most e in
    parse-decimal 64 v text r (omega (arith, i.1)) (omega (arith, i.1)) (same ∙ i.0) parse

clash : (t : Bool) → t ≡ true → t ≡ false → ⊥
clash true e f = absurd cc
clash false e f = absurd cc

-- two texts that `!=` tells apart, and two that it does not
pub apart_words : (a w : Word) (t : Bool) → t ≡ not (bytes_eq a w) → t ≡ true → a ≡ w → ⊥
apart_words a w t e apart same = clash (not (bytes_eq a w)) (sym e ∙ apart) (ap not ((bytes_eq-Decides a w).1 same))

not_false : (u : Bool) → not u ≡ false → u ≡ true
not_false true e = refl
not_false false e = absurd (clash true refl e)

pub same_words : (a w : Word) (t : Bool) → t ≡ not (bytes_eq a w) → t ≡ false → a ≡ w
same_words a w t e alike = (bytes_eq-Decides a w).0 (not_false (bytes_eq a w) (sym e ∙ alike))

ok_same : {E : Type 0} (r : Result ℕ E) (m n : ℕ) → r ≡ Ok m → r ≡ Ok n → m ≡ n
ok_same r m n e f = cc

-- a word that spells no number: it is not parsed, or it is not the decimal of what is parsed, or that is past the limit
pub no_number : {E : Type 0} (limit : ℕ) (word text shown : Word) (r : Result ℕ E) (n : ℕ) → limit ≤ 2 ^ 64 → text ≡ word → ParsesUnsigned 64 10 text r → r ≡ Ok n → shown ≡ decimal n → (shown ≡ word → n < limit → ⊥) → number_of limit word ≡ None
no_number limit word text shown r n most same parse is show no_ = none_from (number_of limit word) (λ v e.
    let i = number_is limit word v most e in
    let m : n ≡ v = ok_same r n v is (parsed limit word text r v most same parse e) in
    no_ (show ∙ ap decimal m ∙ sym i.0) (subst (λ (k : ℕ). k < limit) (sym m) i.1))

pub the_number : (limit n : ℕ) (word shown : Word) → limit ≤ 2 ^ 64 → shown ≡ decimal n → shown ≡ word → n < limit → Some n ≡ number_of limit word
the_number limit n word shown most show same lt = sym (ap (number_of limit) (sym same ∙ show) ∙ (number_field limit most).again n lt)

-- ---- ids

id_kept : (word : Word) (a : Word) → id_of word ≡ Some a → is_id word ≡ true
id_kept word a e = (kept (is_id word) word a e).0

printable_ascii : (word : Word) → IsIdText word → IsAscii word
printable_ascii word h i =
    elim (cases_lt i (length word)) [
      | inl lt ↦ let p = h.printable i 0 lt in omega (arith, p.1)
      | inr ge ↦ rw (get_or_past word i 0 ge) (omega arith)
    ]

pub id_not_utf8 : (word : Word) → (IsUtf8 word → ⊥) → id_of word ≡ None
id_not_utf8 word no_ = none_from (id_of word) (λ a e. no_ (IsUtf8-from_ascii word (printable_ascii word (id_text word (id_kept word a e)))))

pub id_refused : (word : Word) → (IsIdText word → ⊥) → id_of word ≡ None
id_refused word no_ = none_from (id_of word) (λ a e. no_ (id_text word (id_kept word a e)))

pub id_read : (word text id : Word) → text ≡ word → id ≡ text → IsIdText text → id_of word ≡ Some id
id_read word text id same is h =
    ap (λ (t : Bool). kept_if t word) (text_id word (subst IsIdText same h)) ∙ ap (λ (w : Word). Some w) (sym same ∙ sym is)

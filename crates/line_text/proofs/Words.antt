-- Words and lines are cut where they were joined, and each field is read as it is spelled.
use Rattle.std.proofs.Common.{◌≡◌, ◌∙◌, refl, sym, ap, subst, ℕ, ◌+◌, ◌<◌, ◌≤◌, ◌^◌, ◌%◌, List, [], ◌∷◌, ◌++◌, length, Bool, true, false, ◌&&◌, cond, Option, Some, None, append_assoc, arith}
use Rattle.std.specs.Prelude.{IsTrue, decimal, codes, nat_eq, nat_lt}
use Rattle.std.specs.List.{slice_split, onto_first, join_with_byte, list_all, AllByRecursion}
use Rattle.std.specs.Str.{bytes_eq}
use Rattle.std.specs.Fmt.{digits}
use Rattle.std.specs.Str.Parse.{digits_value}
use Rattle.std.proofs.lemmas.Bool.{and_parts, and_from}
use Rattle.std.proofs.lemmas.Bool.Decides.{nat_tests}
use Rattle.std.proofs.lemmas.List.{append-nil}
use Rattle.std.proofs.lemmas.Fmt.{decimal_is_IsNumeral, decimal_by_steps}
use Rattle.std.proofs.lemmas.List.Folds.{list_all-append}
use Rattle.std.proofs.lemmas.List.Splits.{join_with_byte-slice_split}
use Rattle.std.proofs.lemmas.Slice.Eq.{bytes_eq-Decides}
use Rattle.line_text.specs.Lines.{Line, text_of, pieces}
use Rattle.line_text.specs.Fields.{Word, words_in, spaced, kept_if, number_of, id_of, entry_of, number_or_else, tag, tag_of, And, Done, done, with_head, and_of, done_of}
use Rattle.place_names.specs.Names.{is_id, IsTag}
use Rattle.place_names.proofs.Ids.{below, is_above}

-- ---- cutting

-- all bytes are above the one at which texts are cut
abbrev pub IsAbove : ℕ → List ℕ → Type 0
IsAbove mark bytes = list_all (λ b. nat_lt mark b) bytes ≡ true

above_is : (mark b : ℕ) → nat_lt mark b ≡ true → nat_eq b mark ≡ false
above_is mark b h = grind (arith, nat_tests)

pub cut_at : (mark : ℕ) (word rest : List ℕ) → IsAbove mark word → slice_split (λ b. nat_eq b mark) (word ++ mark ∷ rest) ≡ word ∷ slice_split (λ b. nat_eq b mark) rest
cut_at mark [] rest h =
    let same : nat_eq mark mark ≡ true = grind (arith, nat_tests) in
    ap (λ (t : Bool). cond t ([] ∷ slice_split (λ b. nat_eq b mark) rest) (onto_first mark (slice_split (λ b. nat_eq b mark) rest))) same
cut_at mark (b ∷ word) rest h =
    let p = and_parts (nat_lt mark b) (list_all (λ b. nat_lt mark b) word) h in
    let cut = slice_split (λ b. nat_eq b mark) (word ++ mark ∷ rest) in
    ap (λ (t : Bool). cond t ([] ∷ cut) (onto_first b cut)) (above_is mark b p.0) ∙ ap (onto_first b) (cut_at mark word rest p.1)

pub uncut : (mark : ℕ) (word : List ℕ) → IsAbove mark word → slice_split (λ b. nat_eq b mark) word ≡ word ∷ []
uncut mark [] h = refl
uncut mark (b ∷ word) h =
    let p = and_parts (nat_lt mark b) (list_all (λ b. nat_lt mark b) word) h in
    let cut = slice_split (λ b. nat_eq b mark) word in
    ap (λ (t : Bool). cond t ([] ∷ cut) (onto_first b cut)) (above_is mark b p.0) ∙ ap (onto_first b) (uncut mark word p.1)

-- the words of a line that is made of words
pub words_again : (word : Word) (words : List Word) → AllByRecursion (IsAbove 32) (word ∷ words) → words_in (spaced (word ∷ words)) ≡ word ∷ words
words_again word [] h = uncut 32 word h.0
words_again word (next ∷ words) h = cut_at 32 word (spaced (next ∷ words)) h.0 ∙ ap (λ (ws : List Word). word ∷ ws) (words_again next words h.1)

lower : (b : ℕ) → nat_lt 32 b ≡ true → nat_lt 10 b ≡ true
lower b h = grind (arith, nat_tests)

above_newline : (word : Word) → IsAbove 32 word → IsAbove 10 word
above_newline [] h = refl
above_newline (b ∷ word) h =
    let p = and_parts (nat_lt 32 b) (list_all (λ b. nat_lt 32 b) word) h in
    and_from (nat_lt 10 b) (list_all (λ b. nat_lt 10 b) word) (lower b p.0) (above_newline word p.1)

-- and the line has no newline
pub spaced_line : (words : List Word) → AllByRecursion (IsAbove 32) words → IsAbove 10 (spaced words)
spaced_line [] h = refl
spaced_line (word ∷ []) h = above_newline word h.0
spaced_line (word ∷ next ∷ words) h = list_all-append (λ b. nat_lt 10 b) word (32 ∷ spaced (next ∷ words)) ∙ and_from (list_all (λ b. nat_lt 10 b) word) (list_all (λ b. nat_lt 10 b) (spaced (next ∷ words))) (above_newline word h.0) (spaced_line (next ∷ words) h.1)

-- the pieces of a text of lines
pub pieces_again : (lines : List Line) → AllByRecursion (IsAbove 10) lines → pieces (text_of lines) ≡ lines ++ [] ∷ []
pieces_again [] h = refl
pieces_again (line ∷ lines) h =
    ap pieces (append_assoc line (10 ∷ []) (text_of lines)) ∙ cut_at 10 line (text_of lines) h.0 ∙ ap (λ (ls : List Line). line ∷ ls) (pieces_again lines h.1)

joined_is : (lines : List Line) → join_with_byte 10 (lines ++ [] ∷ []) ≡ text_of lines
joined_is [] = refl
joined_is (line ∷ []) = sym (append-nil (line ++ 10 ∷ []))
joined_is (line ∷ next ∷ lines) = ap (λ (t : List ℕ). line ++ 10 ∷ t) (joined_is (next ∷ lines)) ∙ sym (append_assoc line (10 ∷ []) (text_of (next ∷ lines)))

-- a text with these pieces is the text of these lines
pub text_is : (bytes : List ℕ) (lines : List Line) → pieces bytes ≡ lines ++ [] ∷ [] → bytes ≡ text_of lines
text_is bytes lines e = sym (join_with_byte-slice_split 10 bytes) ∙ ap (join_with_byte 10) e ∙ joined_is lines

pub line_is : (line : Line) (words : List Word) → words_in line ≡ words → line ≡ spaced words
line_is line words e = sym (join_with_byte-slice_split 32 line) ∙ ap spaced e

-- ---- fields

-- a word is read exactly where it is spelled, and has no space
pub record IsField {A : Type 0} (Fits : A → Type 0) (spell : A → Word) (read : Word → Option A) : Type 0 where
  pub found : (word : Word) (a : A) → read word ≡ Some a → (word ≡ spell a) × Fits a
  pub again : (a : A) → Fits a → read (spell a) ≡ Some a
  pub plain : (a : A) → Fits a → IsAbove 32 (spell a)

pub kept : {A : Type 0} (test : Bool) (a b : A) → kept_if test a ≡ Some b → (test ≡ true) × (a ≡ b)
kept true a b e = (refl, cc)
kept false a b e = absurd cc

plain_digit : (n : ℕ) (ds : List ℕ) → IsAbove 32 ds → IsAbove 32 (ds ++ (48 + n % 10) ∷ [])
plain_digit n ds h = list_all-append (λ b. nat_lt 32 b) ds ((48 + n % 10) ∷ []) ∙ and_from (list_all (λ b. nat_lt 32 b) ds) (nat_lt 32 (48 + n % 10) && true) h (and_from (nat_lt 32 (48 + n % 10)) true (grind (arith, nat_tests)) refl)

pub plain_number : (n : ℕ) → n < 2 ^ 64 → IsAbove 32 (decimal n)
plain_number = decimal_by_steps (λ n ds. IsAbove 32 ds) (λ n small. and_from (nat_lt 32 (48 + n)) true (grind (arith, nat_tests)) refl) (λ n ds big h. plain_digit n ds h)

pub number_field : (limit : ℕ) → limit ≤ 2 ^ 64 → IsField (λ n. n < limit) decimal (number_of limit)
number_field limit most = record {
  found = λ word n e.
      let k = kept (bytes_eq word (decimal (digits_value 10 word)) && nat_lt (digits_value 10 word) limit) (digits_value 10 word) n e in
      let p = and_parts (bytes_eq word (decimal (digits_value 10 word))) (nat_lt (digits_value 10 word) limit) k.0 in
      ((bytes_eq-Decides word (decimal (digits_value 10 word))).0 p.0 ∙ ap decimal k.1, subst (λ (m : ℕ). m < limit) k.1 (below (digits_value 10 word) limit p.1));
  again = λ n small.
      let value : digits_value 10 (decimal n) ≡ n = (decimal_is_IsNumeral n (omega arith)).1 in
      let same : bytes_eq (decimal n) (decimal (digits_value 10 (decimal n))) ≡ true = (bytes_eq-Decides (decimal n) (decimal (digits_value 10 (decimal n)))).1 (ap decimal (sym value)) in
      let fits : nat_lt (digits_value 10 (decimal n)) limit ≡ true = ap (λ (m : ℕ). nat_lt m limit) value ∙ is_above n limit small in
      ap (λ (t : Bool). kept_if t (digits_value 10 (decimal n))) (and_from (bytes_eq (decimal n) (decimal (digits_value 10 (decimal n)))) (nat_lt (digits_value 10 (decimal n)) limit) same fits) ∙ ap (λ (m : ℕ). Some m) value;
  plain = λ n small. plain_number n (omega arith);
}

printable_above : (bytes : List ℕ) → list_all (λ b. nat_lt 32 b && nat_lt b 127) bytes ≡ true → IsAbove 32 bytes
printable_above [] h = refl
printable_above (b ∷ bytes) h =
    let p = and_parts (nat_lt 32 b && nat_lt b 127) (list_all (λ b. nat_lt 32 b && nat_lt b 127) bytes) h in
    and_from (nat_lt 32 b) (list_all (λ b. nat_lt 32 b) bytes) (and_parts (nat_lt 32 b) (nat_lt b 127) p.0).0 (printable_above bytes p.1)

pub id_plain : (word : Word) → IsTrue (is_id word) → IsAbove 32 word
id_plain word h = printable_above word (and_parts (list_all (λ b. nat_lt 32 b && nat_lt b 127) word) (nat_lt 0 (length word) && _) h).0

pub id_field : IsField (λ word. IsTrue (is_id word)) (λ word. word) id_of
id_field = record {
  found = λ word a e. let k = kept (is_id word) word a e in (k.1, subst (λ (w : Word). IsTrue (is_id w)) k.1 k.0);
  again = λ word h. ap (λ (t : Bool). kept_if t word) h;
  plain = λ word h. id_plain word h;
}

-- a table of words
entry_by : {A : Type 0} (spell : A → Word) (entry : Word × A) (entries : List (Word × A)) (word : Word) (a : A) (t : Bool) → entry.0 ≡ spell entry.1 → bytes_eq word entry.0 ≡ t → (entry_of entries word ≡ Some a → word ≡ spell a) → cond t (Some entry.1) (entry_of entries word) ≡ Some a → word ≡ spell a
entry_by spell entry entries word a true h same later e =
    let first : entry.1 ≡ a = cc in
    (bytes_eq-Decides word entry.0).0 same ∙ h ∙ ap spell first
entry_by spell entry entries word a false h same later e = later e

pub found_entry : {A : Type 0} (spell : A → Word) (entries : List (Word × A)) → AllByRecursion (λ entry. entry.0 ≡ spell entry.1) entries → (word : Word) (a : A) → entry_of entries word ≡ Some a → word ≡ spell a
found_entry spell [] h word a e = absurd cc
found_entry spell (entry ∷ entries) h word a e = entry_by spell entry entries word a (bytes_eq word entry.0) h.0 refl (found_entry spell entries h.1 word a) e

-- ---- labels

tag_found_by : (word : Word) (o : Option ℕ) (a : Option ℕ) → ((n : ℕ) → o ≡ Some n → (word ≡ decimal n) × (n < 2 ^ 32)) → number_or_else Some o (entry_of ((codes "-", None) ∷ []) word) ≡ Some a → (word ≡ tag a) × IsTag a
tag_found_by word (Some n) a h e =
    let is : Some n ≡ a = cc in
    subst (λ (b : Option ℕ). (word ≡ tag b) × IsTag b) is (h n refl)
tag_found_by word None (Some m) h e = absurd (dash_only word m e)
  where
    dash_by : (t : Bool) (m : ℕ) → cond t (Some None) None ≡ Some (Some m) → ⊥
    dash_by true m e = absurd cc
    dash_by false m e = absurd cc

    dash_only : (word : Word) (m : ℕ) → entry_of ((codes "-", None) ∷ []) word ≡ Some (Some m) → ⊥
    dash_only word m e = dash_by (bytes_eq word (codes "-")) m e
tag_found_by word None None h e = (found_entry tag ((codes "-", None) ∷ []) (refl, tt) word None e, tt)

tag_again : (a : Option ℕ) → IsTag a → tag_of (tag a) ≡ Some a
unfolding digits
tag_again None h = refl
tag_again (Some n) h = ap (λ (o : Option ℕ). number_or_else Some o (entry_of ((codes "-", None) ∷ []) (decimal n))) ((number_field (2 ^ 32) (omega arith)).again n h)

tag_plain : (a : Option ℕ) → IsTag a → IsAbove 32 (tag a)
tag_plain None h = refl
tag_plain (Some n) h = plain_number n (omega (arith, h))

pub tag_field : IsField IsTag tag tag_of
tag_field = record {
  found = λ word a e. tag_found_by word (number_of (2 ^ 32) word) a ((number_field (2 ^ 32) (omega arith)).found word) e;
  again = tag_again;
  plain = tag_plain;
}

-- ---- rows of fields

pub record IsRow {A : Type 0} (Fits : A → Type 0) (spell : A → List Word) (read : List Word → Option A) : Type 0 where
  pub found : (words : List Word) (a : A) → read words ≡ Some a → (words ≡ spell a) × Fits a
  pub again : (a : A) → Fits a → read (spell a) ≡ Some a
  pub plain : (a : A) → Fits a → AllByRecursion (IsAbove 32) (spell a)

nothing_behind : (words : List Word) → done_of words ≡ Some done → words ≡ []
nothing_behind [] e = refl
nothing_behind (word ∷ words) e = absurd cc

abbrev pub done_words : Done → List Word
done_words d = []

pub done_row : IsRow (λ a. Unit {0}) done_words done_of
done_row = record {
  found = λ words a e. (all_done words a e, tt);
  again = λ a h. done_again a;
  plain = λ a h. done_plain a;
}
  where
    all_done : (words : List Word) (a : Done) → done_of words ≡ Some a → words ≡ done_words a
    all_done words done e = nothing_behind words e

    done_again : (a : Done) → done_of (done_words a) ≡ Some a
    done_again done = refl

    done_plain : (a : Done) → AllByRecursion (IsAbove 32) (done_words a)
    done_plain done = tt

abbrev pub and_words : {A B : Type 0} → (A → Word) → (B → List Word) → And A B → List Word
and_words spell others a = spell a.head ∷ others a.rest

head_is : {A B : Type 0} (o : Option A) (p : Option B) (a : And A B) → with_head o p ≡ Some a → (o ≡ Some a.head) × (p ≡ Some a.rest)
head_is None p a e = absurd cc
head_is (Some h) None a e = absurd cc
head_is (Some h) (Some r) a e =
    let is : record { head = h; rest = r } ≡ a = cc in
    (ap (λ (b : And _ _). Some b.head) is, ap (λ (b : And _ _). Some b.rest) is)

and_found : {A B : Type 0} {F : A → Type 0} {G : B → Type 0} {spell : A → Word} {read : Word → Option A} {others : B → List Word} {read_others : List Word → Option B} (f : IsField F spell read) (g : IsRow G others read_others) (words : List Word) (a : And A B) → and_of read read_others words ≡ Some a → (words ≡ and_words spell others a) × (F a.head × G a.rest)
and_found f g [] a e = absurd cc
and_found {spell} {read} {others} {read_others} f g (word ∷ words) a e =
    let h = head_is (read word) (read_others words) a e in
    let first = f.found word a.head h.0 in
    let rest = g.found words a.rest h.1 in
    (ap (λ (w : Word). w ∷ words) first.0 ∙ ap (λ (ws : List Word). spell a.head ∷ ws) rest.0, (first.1, rest.1))

pub and_row : {A B : Type 0} {F : A → Type 0} {G : B → Type 0} {spell : A → Word} {read : Word → Option A} {others : B → List Word} {read_others : List Word → Option B} (f : IsField F spell read) (g : IsRow G others read_others) → IsRow (λ a. F a.head × G a.rest) (and_words spell others) (and_of read read_others)
and_row {read} {others} {read_others} f g = record {
  found = λ words a e. and_found f g words a e;
  again = λ a h. ap (λ (o : Option _). with_head o (read_others (others a.rest))) (f.again a.head h.0) ∙ ap (λ (o : Option _). with_head (Some a.head) o) (g.again a.rest h.1);
  plain = λ a h. (f.plain a.head h.0, g.plain a.rest h.1);
}

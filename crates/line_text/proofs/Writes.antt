-- A text that is written piece by piece.
use Rattle.std.proofs.Common.{◌≡◌, ◌∙◌, sym, ap, subst, refl, ℕ, ◌+◌, List, [], ◌∷◌, ◌++◌, length, take, length-append, append_assoc, Option, Some, None, Result, Ok, Err, OnErr, arith}
use Rattle.std.proofs.lemmas.List.{take-append-le, append-nil}
use Rattle.std.proofs.Math.Seq.{take-append-add}
use Rattle.std.proofs.lemmas.Grind.{flat_map-append}
use Rattle.line_text.specs.Lines.{Line, text_of}
use Rattle.line_text.specs.Fields.{Word, spaced}
use Rattle.line_text.specs.Writing.{spaced_each}
use Rattle.std.specs.Io.KnownBytes.{Appends}
use Rattle.io_edges.specs.Stores.{AppendsFront}
use Rattle.io_edges.proofs.Written.{Appends-join}

abbrev pub Told : Type 0
Told = Option (List ℕ)

-- a front of the second piece, behind the first
pub front_behind : (a b c : Told) (xs ys : List ℕ) → Appends a b xs → AppendsFront b c ys → AppendsFront a c (xs ++ ys)
front_behind a b c xs ys p f =
    let text : take (length xs + f.0) (xs ++ ys) ≡ xs ++ take f.0 ys = take-append-add xs ys f.0 in
    (length xs + f.0, omega (arith, length-append xs ys, f.1), subst (λ (t : List ℕ). Appends a c t) (sym text) (Appends-join a b c xs (take f.0 ys) p f.2))

-- a front of a text is a front of a longer one
pub front_of_more : (a c : Told) (xs ys : List ℕ) → AppendsFront a c xs → AppendsFront a c (xs ++ ys)
front_of_more a c xs ys f =
    (f.0, omega (arith, length-append xs ys, f.1), subst (λ (t : List ℕ). Appends a c t) (sym (take-append-le f.0 xs ys f.1)) f.2)

pub on_err : {T E P : Type 0} (r : Result T E) → P → OnErr r P
on_err (Ok x) p = tt
on_err (Err e) p = p

pub nothing_yet : (a : Told) → Appends a a []
nothing_yet None = tt
nothing_yet (Some xs) = sym (append-nil xs)

-- of the whole text this is left
pub record IsUnderway (start now : Told) (whole left : List ℕ) : Type 0 where
  pub done : List ℕ
  pub written : Appends start now done
  pub parts : whole ≡ done ++ left

pub begun : (start : Told) (whole : List ℕ) → IsUnderway start start whole whole
begun start whole = record { done = []; written = nothing_yet start; parts = refl }

pub one_more : (start now next : Told) (whole line left : List ℕ) → IsUnderway start now whole (line ++ left) → Appends now next line → IsUnderway start next whole left
one_more start now next whole line left u p = record {
  done = u.done ++ line;
  written = Appends-join start now next u.done line u.written p;
  parts = u.parts ∙ sym (append_assoc u.done line left);
}

pub all_written : (start now : Told) (whole left : List ℕ) → left ≡ [] → IsUnderway start now whole left → Appends start now whole
all_written start now whole left none u =
    subst (λ (t : List ℕ). Appends start now t) (sym (u.parts ∙ ap (λ (t : List ℕ). u.done ++ t) none ∙ append-nil u.done)) u.written

pub cut_short : (start now next : Told) (whole line left : List ℕ) → IsUnderway start now whole (line ++ left) → AppendsFront now next line → AppendsFront start next whole
cut_short start now next whole line left u f =
    subst (λ (t : List ℕ). AppendsFront start next t) (sym u.parts) (front_behind start now next u.done (line ++ left) u.written (front_of_more now next line left f))

-- the same text, said otherwise
pub same_left : (start now : Told) (whole left others : List ℕ) → left ≡ others → IsUnderway start now whole left → IsUnderway start now whole others
same_left start now whole left others e u = subst (λ (t : List ℕ). IsUnderway start now whole t) e u

-- ---- lines

pub lines_join : (lines more : List Line) → text_of (lines ++ more) ≡ text_of lines ++ text_of more
lines_join lines more = flat_map-append (λ line. line ++ 10 ∷ []) lines more

pub one_line : (line : Line) → text_of (line ∷ []) ≡ line ++ 10 ∷ []
one_line line = append-nil (line ++ 10 ∷ [])

-- a word at the end of a line that has one
pub spaced_more : (key : Word) (words : List Word) (word : Word) → spaced (key ∷ words) ++ 32 ∷ word ≡ spaced (key ∷ (words ++ word ∷ []))
spaced_more key [] word = refl
spaced_more key (next ∷ words) word = append_assoc key (32 ∷ spaced (next ∷ words)) (32 ∷ word) ∙ ap (λ (line : Line). key ++ 32 ∷ line) (spaced_more next words word)

pub then_word : (line longer : Line) (key : Word) (words : List Word) (word : Word) → line ≡ spaced (key ∷ words) → longer ≡ line ++ 32 ∷ word → longer ≡ spaced (key ∷ (words ++ word ∷ []))
then_word line longer key words word is more = more ∙ ap (λ (l : Line). l ++ 32 ∷ word) is ∙ spaced_more key words word

pub then_words : (line longer : Line) (key : Word) (words : List Word) (first second : Word) → line ≡ spaced (key ∷ words) → longer ≡ line ++ 32 ∷ (first ++ 32 ∷ second) → longer ≡ spaced (key ∷ (words ++ first ∷ second ∷ []))
then_words line longer key words first second is more =
    then_word (line ++ 32 ∷ first) longer key (words ++ first ∷ []) second (then_word line (line ++ 32 ∷ first) key words first is refl) (more ∙ sym (append_assoc line (32 ∷ first) (32 ∷ second)))
    ∙ ap (λ (ws : List Word). spaced (key ∷ ws)) (append_assoc words (first ∷ []) (second ∷ []))

pub then_end : (line longer : Line) (words : List Word) → line ≡ spaced words → longer ≡ line ++ 10 ∷ [] → longer ≡ spaced words ++ 10 ∷ []
then_end line longer words is more = more ∙ ap (λ (l : Line). l ++ 10 ∷ []) is

pub then_all : (line longer : Line) (key : Word) (words more : List Word) → line ≡ spaced (key ∷ words) → longer ≡ line ++ spaced_each more → longer ≡ spaced (key ∷ (words ++ more))
then_all line longer key words [] is more = more ∙ append-nil line ∙ is ∙ ap (λ (ws : List Word). spaced (key ∷ ws)) (sym (append-nil words))
then_all line longer key words (word ∷ others) is more =
    then_all (line ++ 32 ∷ word) longer key (words ++ word ∷ []) others (then_word line (line ++ 32 ∷ word) key words word is refl) (more ∙ sym (append_assoc line (32 ∷ word) (spaced_each others)))
    ∙ ap (λ (ws : List Word). spaced (key ∷ ws)) (append_assoc words (word ∷ []) others)

-- ---- lines that were made

pub made_more : (start now next : Told) (whole line made left : List ℕ) → made ≡ line → IsUnderway start now whole (line ++ left) → Appends now next made → IsUnderway start next whole left
made_more start now next whole line made left is u p = one_more start now next whole line left u (subst (λ (t : List ℕ). Appends now next t) is p)

pub made_cut : {T E : Type 0} (r : Result T E) (start now next : Told) (whole line made left : List ℕ) → made ≡ line → IsUnderway start now whole (line ++ left) → AppendsFront now next made → OnErr r (AppendsFront start next whole)
made_cut r start now next whole line made left is u p = on_err r (cut_short start now next whole line left u (subst (λ (t : List ℕ). AppendsFront now next t) is p))

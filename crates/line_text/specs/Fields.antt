-- The words of a line: each field is spelled as one word.
use Rattle.std.specs.Prelude.{ℕ, ◌^◌, List, [], ◌∷◌, Bool, ◌&&◌, Option, Some, None, nat_eq, nat_lt, codes, decimal, if◌then◌else◌, option_map}
use Rattle.std.specs.List.{slice_split, join_with_byte}
use Rattle.std.specs.Str.{bytes_eq}
use Rattle.std.specs.Str.Parse.{digits_value}
use Rattle.ml_base.specs.declared.numbers.Wish.{Wish}
use Rattle.ml_base.specs.declared.numbers.Wish.TheVariants.{Any, Value}
use Rattle.line_text.specs.Lines.{Line}
use Rattle.place_names.specs.Names.{is_id}

abbrev pub Word : Type 0
Word = List ℕ

-- what stands between the spaces of a line
abbrev pub words_in : Line → List Word
words_in line = slice_split (λ b. nat_eq b 32) line

-- words with a space between each two
abbrev pub spaced : List Word → Line
spaced words = join_with_byte 32 words

-- ---- one word

abbrev pub kept_if : {A : Type 0} → Bool → A → Option A
kept_if test a = if test then Some a else None

-- a decimal without leading zeros, below a limit: the decimal of what its digits are worth
abbrev pub number_of : ℕ → Word → Option ℕ
number_of limit word = kept_if (bytes_eq word (decimal (digits_value 10 word)) && nat_lt (digits_value 10 word) limit) (digits_value 10 word)

abbrev pub id_of : Word → Option Word
id_of word = kept_if (is_id word) word

-- the first entry of this word
abbrev pub entry_of : {A : Type 0} → List (Word × A) → Word → Option A
entry_of [] word = None
entry_of (entry ∷ entries) word = if bytes_eq word entry.0 then Some entry.1 else entry_of entries word

abbrev pub number_or_else : {A : Type 0} → (ℕ → A) → Option ℕ → Option A → Option A
number_or_else f (Some n) other = Some (f n)
number_or_else f None other = other

abbrev pub tag : Option ℕ → Word
tag None = codes "-"
tag (Some label) = decimal label

-- a label, or a word for no label
abbrev pub tag_of : Word → Option (Option ℕ)
tag_of word = number_or_else Some (number_of (2 ^ 32) word) (entry_of ((codes "-", None) ∷ []) word)

-- a label that is wished, or a word for any
abbrev pub wish_of : Word → Option Wish
wish_of word = number_or_else Value (number_of (2 ^ 32) word) (entry_of ((codes "any", Any) ∷ []) word)

-- ---- words in a row

pub record And (A B : Type 0) : Type 0 where
  pub head : A
  pub rest : B

pub data Done : Type 0 where
  done : Done

abbrev pub with_head : {A B : Type 0} → Option A → Option B → Option (And A B)
with_head None rest = None
with_head (Some a) rest = option_map (λ b. record { head = a; rest = b }) rest

-- the first word, and then the others
abbrev pub and_of : {A B : Type 0} → (Word → Option A) → (List Word → Option B) → List Word → Option (And A B)
and_of head rest [] = None
and_of head rest (word ∷ words) = with_head (head word) (rest words)

abbrev pub done_of : List Word → Option Done
done_of [] = Some done
done_of (word ∷ words) = None

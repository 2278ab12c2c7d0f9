-- Words of files that are numbered, one more at the end.
use Rattle.std.proofs.Common.{◌≡◌, ◌∙◌, sym, ap, ℕ, suc, ◌+◌, ◌<◌, List, [], ◌∷◌, ◌++◌, length, take, get_or, arith}
use Rattle.std.proofs.lemmas.List.{length-take-le}
use Rattle.file_words.specs.declared.reading.FileWord.{FileWord}
use Rattle.file_words.specs.Reading.{file_words}
use Rattle.replies.proofs.Steps.{one_more}

abbrev word_at : ℕ → List ℕ → FileWord
word_at n name = record { number = n; name = name; limit = 16777216 }

file_words-snoc : (n : ℕ) (names : List (List ℕ)) (name : List ℕ) → file_words n (names ++ name ∷ []) ≡ file_words n names ++ word_at (n + length names) name ∷ []
file_words-snoc n [] name = let e : n ≡ n + 0 = omega arith in ap (λ m. word_at m name ∷ []) e
file_words-snoc n (w ∷ names) name =
    let e : n + 1 + length names ≡ n + suc (length names) = omega arith in
    ap (λ ws. word_at n w ∷ ws) (file_words-snoc (n + 1) names name ∙ ap (λ m. file_words (n + 1) names ++ word_at m name ∷ []) e)

pub file_words-step : (names : List (List ℕ)) (i n : ℕ) (name : List ℕ) (words : List FileWord) → name ≡ get_or names i name → i < length names → n ≡ i
    → words ≡ file_words 1 (take i names) → words ++ word_at (n + 1) name ∷ [] ≡ file_words 1 (take (i + 1) names)
file_words-step names i n name words is lt at e =
    let l : n + 1 ≡ 1 + length (take i names) = omega (arith, at, length-take-le i names (omega arith)) in
    ap (λ ws. ws ++ word_at (n + 1) name ∷ []) e ∙ ap (λ m. file_words 1 (take i names) ++ word_at m name ∷ []) l
    ∙ sym (file_words-snoc 1 (take i names) name) ∙ ap (file_words 1) (sym (one_more names i name is lt))

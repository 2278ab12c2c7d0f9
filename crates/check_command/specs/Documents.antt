-- The word that names a document.
use Rattle.std.specs.Prelude.{List, [], ◌∷◌, ℕ}
use Rattle.file_words.specs.declared.reading.FileWord.{FileWord}

-- a word that names a document: it is file 0, with the most bytes that a document may have
abbrev pub answer_word : List ℕ → FileWord
answer_word answer = record { number = 0; name = answer; limit = 1073741824 }

-- a document is read besides the files
abbrev pub answer_words : List ℕ → List FileWord
answer_words answer = answer_word answer ∷ []

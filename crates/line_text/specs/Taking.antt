-- One word taken from the front of a line.
use Rattle.std.specs.Prelude.{List, [], ◌∷◌, Option, None, option_map}
use Rattle.line_text.specs.Fields.{Word}

-- what the first word says, and the words behind it
abbrev pub take_word : {A : Type 0} → (Word → Option A) → List Word → Option (A × List Word)
take_word read [] = None
take_word read (word ∷ words) = option_map (λ a. (a, words)) (read word)

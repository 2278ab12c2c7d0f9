-- Words in a row, as they are written.
use Rattle.std.specs.Prelude.{List, ◌∷◌}
use Rattle.std.specs.List.{flat_map}
use Rattle.line_text.specs.Lines.{Line}
use Rattle.line_text.specs.Fields.{Word}

-- words, each behind a space
abbrev pub spaced_each : List Word → Line
spaced_each words = flat_map (λ word. 32 ∷ word) words

-- The text of sizes.
use Rattle.std.specs.Prelude.{◌≡◌, ℕ, List, [], ◌∷◌, codes, decimal}
use Rattle.line_text.specs.Lines.{Line, text_of}
use Rattle.line_text.specs.Fields.{Word, spaced}
use Rattle.sizes_text.specs.declared.line.Measure.{Measure}
use Rattle.sizes_text.specs.declared.line.Measure.TheVariants.{Overhead, Octets}
use Rattle.sizes_text.specs.declared.line.SizeLine.{SizeLine}
use Rattle.sizes_text.specs.Table.{SizeTable, AreSizes}

abbrev pub measure_word : Measure → Word
measure_word Overhead = codes "overhead"
measure_word Octets = codes "octets"

abbrev pub heading : Line
heading = codes "sizes 1"

abbrev pub ending : Line
ending = codes "end"

abbrev pub size_line : SizeLine → Line
size_line size = spaced (measure_word size.measure ∷ size.id ∷ decimal size.number ∷ [])

-- the lines of sizes and the end
abbrev pub lines_to_end : List SizeLine → List Line
lines_to_end [] = ending ∷ []
lines_to_end (size ∷ sizes) = size_line size ∷ lines_to_end sizes

abbrev pub size_lines : List SizeLine → List Line
size_lines sizes = heading ∷ lines_to_end sizes

-- the lines of some sizes
abbrev pub IsSizesText : List Line → Type 0
IsSizesText lines = (sizes : List SizeLine) × (table : SizeTable) × AreSizes sizes table × (lines ≡ size_lines sizes)

-- the bytes spell sizes whose table this is
pub record Spells (bytes : List ℕ) (table : SizeTable) : Type 0 where
  pub sizes : List SizeLine
  pub told : AreSizes sizes table
  pub spelled : bytes ≡ text_of (size_lines sizes)

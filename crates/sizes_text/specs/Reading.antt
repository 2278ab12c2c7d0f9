-- What the bytes of a text of sizes say, line by line.
use Rattle.std.specs.Prelude.{ℕ, ◌^◌, List, [], ◌∷◌, Option, Some, None, Result, if◌then◌else◌, option_map, codes}
use Rattle.std.specs.Str.{bytes_eq}
use Rattle.line_text.specs.Lines.{Line}
use Rattle.line_text.specs.Fields.{Word, words_in, kept_if, number_of, id_of, entry_of, And, Done, and_of, done_of}
use Rattle.line_fault.specs.Answering.{said_by}
use Rattle.sizes_text.specs.declared.line.Measure.{Measure}
use Rattle.sizes_text.specs.declared.line.Measure.TheVariants.{Overhead, Octets}
use Rattle.sizes_text.specs.declared.line.SizeLine.{SizeLine}
use Rattle.sizes_text.specs.Table.{SizeTable, nothing, with_size}
use Rattle.sizes_text.specs.Text.{heading, ending}

-- ---- one line

abbrev pub measures : List (Word × Measure)
measures = (codes "overhead", Overhead) ∷ (codes "octets", Octets) ∷ []

-- a measure, an id and a number
abbrev pub SizeWords : Type 0
SizeWords = And Measure (And Word (And ℕ Done))

abbrev pub size_words_of : List Word → Option SizeWords
size_words_of = and_of (entry_of measures) (and_of id_of (and_of (number_of (2 ^ 16)) done_of))

abbrev pub size_of : SizeWords → SizeLine
size_of t = record { measure = t.head; id = t.rest.head; number = t.rest.rest.head }

-- the size that words spell
abbrev pub size_in : List Word → Option SizeLine
size_in words = option_map size_of (size_words_of words)

-- ---- the lines

-- what stands before a line
pub data At : Type 0 where
  Start : At
  In : SizeTable → At
  Ended : SizeTable → At

-- a line of a size
abbrev pub noted : SizeTable → Option SizeLine → Option At
noted table None = None
noted table (Some size) = option_map In (with_size table size)

abbrev pub sizes_step : At → Line → Option At
sizes_step Start line = kept_if (bytes_eq line heading) (In nothing)
sizes_step (In table) line = if bytes_eq line ending then Some (Ended table) else noted table (size_in (words_in line))
sizes_step (Ended table) line = None

abbrev pub sizes_end : At → Option SizeTable
sizes_end Start = None
sizes_end (In table) = None
sizes_end (Ended table) = Some table

-- the sizes, or the number of the first line that does not fit
abbrev pub sizes_in : List ℕ → Result SizeTable ℕ
sizes_in bytes = said_by sizes_step sizes_end Start bytes

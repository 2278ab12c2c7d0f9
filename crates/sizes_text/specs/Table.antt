-- Sizes of frames: for an id the octets that a frame gets more, and the octets that it may have.
use Rattle.std.specs.Prelude.{◌≡◌, ℕ, ◌<◌, ◌^◌, List, [], ◌∷◌, Option, Some, IsTrue, option_map}
use Rattle.id_numbers.specs.Numbers.{Numbers, added}
use Rattle.line_text.specs.Fields.{Word}
use Rattle.place_names.specs.Names.{is_id}
use Rattle.sizes_text.specs.declared.line.Measure.{Measure}
use Rattle.sizes_text.specs.declared.line.Measure.TheVariants.{Overhead, Octets}
use Rattle.sizes_text.specs.declared.line.SizeLine.{SizeLine}

pub record SizeTable : Type 0 where
  pub overheads : Numbers
  pub octets : Numbers

-- what is known before any line
abbrev pub nothing : SizeTable
nothing = record { overheads = []; octets = [] }

-- the table with one number more, where none is told of its id yet
abbrev pub with_number : Measure → SizeTable → Word → ℕ → Option SizeTable
with_number Overhead table id n = option_map (λ numbers. record { overheads = numbers; octets = table.octets }) (added table.overheads id n)
with_number Octets table id n = option_map (λ numbers. record { overheads = table.overheads; octets = numbers }) (added table.octets id n)

abbrev pub with_size : SizeTable → SizeLine → Option SizeTable
with_size table size = with_number size.measure table size.id size.number

-- an id and a number
pub record IsSize (size : SizeLine) : Type 0 where
  pub id : IsTrue (is_id size.id)
  pub number : size.number < 2 ^ 16

-- the lines tell sizes one by one, none of them twice, and the table grows by them from the first to the second
abbrev pub Tell : List SizeLine → SizeTable → SizeTable → Type 0
Tell [] table whole = table ≡ whole
Tell (size ∷ sizes) table whole = (next : SizeTable) × IsSize size × (with_size table size ≡ Some next) × Tell sizes next whole

-- sizes that may stand together, and their table
abbrev pub AreSizes : List SizeLine → SizeTable → Type 0
AreSizes sizes table = Tell sizes nothing table

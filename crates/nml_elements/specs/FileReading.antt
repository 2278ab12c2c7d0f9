-- What the bytes of a file say: a domain, or the first fault.
use Rattle.std.specs.Prelude.{◌≡◌, ℕ, ◌+◌, ◌≤◌, List, [], ◌∷◌, codes, is_some, nat_lt, Option, Some, None, option_and_then, Result, Ok, Err, if◌then◌else◌}
use Rattle.std.specs.Str.{is_utf8}
use Rattle.serde_json.specs.Data.{Data, Items, no_items, item}
use Rattle.serde_json.specs.Find.{as_object, as_array}
use Rattle.serde_json.specs.Events.{items_len}
use Rattle.serde_json.specs.Read.{read}
use Rattle.nml_elements.specs.declared.fault.MemberFault.{MemberFault}
use Rattle.nml_elements.specs.declared.fault.MemberFault.TheVariants as members
use Rattle.nml_elements.specs.declared.fault.ReadFault.{ReadFault}
use Rattle.nml_elements.specs.declared.fault.ReadFault.TheVariants.{Json, Shape, Label, NoMemory}
use Rattle.nml_elements.specs.declared.living.Living.{Living}
use Rattle.nml_elements.specs.declared.elements.Entry.{Entry}
use Rattle.nml_elements.specs.declared.elements.Domain.{Domain}
use Rattle.nml_elements.specs.Gives.{◌>>=◌}
use Rattle.nml_elements.specs.MemberReading.{part, whole, required_id, optional_id}
use Rattle.nml_elements.specs.ElementReading.{element_at}

-- the code's answer is what reading gives, unless memory ran out
abbrev pub Misses : {X : Type 0} → ReadFault → Result X ReadFault → Type 0
Misses Json read = read ≡ Err Json
Misses (Shape element rule) read = read ≡ Err (Shape element rule)
Misses (Label element at) read = read ≡ Err (Label element at)
Misses NoMemory read = Unit {0}

abbrev pub Reads : {X : Type 0} → Result X ReadFault → Result X ReadFault → Type 0
Reads (Ok x) read = read ≡ Ok x
Reads (Err e) read = Misses e read

-- a fault at the element with this number
abbrev pub located : ℕ → MemberFault → ReadFault
located n (members.Rule rule) = Shape n rule
located n (members.Label at) = Label n at
located n members.NoMemory = NoMemory

abbrev pub at_element : {X : Type 0} → ℕ → Result X MemberFault → Result X ReadFault
at_element n (Ok x) = Ok x
at_element n (Err fault) = Err (located n fault)

-- ---- the elements

abbrev pub with_entry : ℕ → Option Living → List Entry → List Entry
with_entry n None entries = entries
with_entry n (Some living) entries = record { number = n; element = living.element; lifetime = living.lifetime } ∷ entries

-- the elements of an array whose first has the number n
unfoldable pub entries_at : ℕ → Items → Result (List Entry) ReadFault
entries_at n no_items = Ok []
entries_at n (item d ds) = do
  element ← at_element n (element_at d)
  entries ← entries_at (n + 1) ds
  Ok (with_entry n element entries)

-- ---- the file

abbrev pub format_from : Option ℕ → Result (Unit {0}) MemberFault
format_from None = Err (members.Rule 2)
format_from (Some n) = if nat_lt n 1 then Err (members.Rule 2) else (if nat_lt 1 n then Err (members.Rule 2) else Ok tt)

abbrev pub array_from : Option Items → Result Items MemberFault
array_from None = Err (members.Rule 5)
array_from (Some ds) = if nat_lt 16777216 (items_len ds) then Err (members.Rule 5) else Ok ds

abbrev pub object_at : Data → Result (Unit {0}) MemberFault
object_at d = if is_some (as_object d) then Ok tt else Err (members.Rule 1)

unfoldable pub format_at : Data → Result (Unit {0}) MemberFault
format_at d = do
  object ← object_at d
  format_from (option_and_then whole (part (codes "format") d))

abbrev pub elements_part : Data → Option Items
elements_part d = option_and_then as_array (part (codes "elements") d)

unfoldable pub array_at : Data → Result Items MemberFault
array_at d = array_from (elements_part d)

unfoldable pub domain_at : Data → Result Domain ReadFault
domain_at d = do
  format ← at_element 0 (format_at d)
  id ← at_element 0 (required_id 3 (codes "topology") d)
  encoding ← at_element 0 (optional_id 4 (codes "encoding") d)
  items ← at_element 0 (array_at d)
  entries ← entries_at 1 items
  Ok (record { id = id; encoding = encoding; elements = entries })

-- the JSON value that the bytes are
unfoldable pub json_of : List ℕ → Option Data
json_of bytes = if is_utf8 bytes then read bytes else None

abbrev pub domain_from : Option Data → Result Domain ReadFault
domain_from None = Err Json
domain_from (Some d) = domain_at d

unfoldable pub domain_of : List ℕ → Result Domain ReadFault
domain_of bytes = domain_from (json_of bytes)

-- ---- the numbers of entries

-- the entries' numbers rise strictly from this one or later, up to the most elements that a file has
abbrev pub AreNumbered : ℕ → List Entry → Type 0
AreNumbered least [] = Unit {0}
AreNumbered least (entry ∷ rest) = (least ≤ entry.number) × (entry.number ≤ 16777216) × AreNumbered (entry.number + 1) rest

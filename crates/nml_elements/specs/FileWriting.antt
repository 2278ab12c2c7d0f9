-- The JSON value that is written of a domain.
use Rattle.std.specs.Prelude.{◌≡◌, ℕ, ◌+◌, List, [], ◌∷◌, codes, Some}
use Rattle.std.specs.List.{AllByRecursion}
use Rattle.serde_json.specs.Data.{Data, array, Items, no_items, item}
use Rattle.nml_elements.specs.declared.elements.Entry.{Entry}
use Rattle.nml_elements.specs.declared.elements.Domain.{Domain}
use Rattle.nml_elements.specs.Kept.{KeepsEntry}
use Rattle.nml_elements.specs.ElementWriting.{Part, object_of, text_part, optional_text_part, number_part, entry_data}

abbrev pub entries_data : List Entry → Items
entries_data [] = no_items
entries_data (entry ∷ rest) = item (entry_data entry) (entries_data rest)

abbrev pub domain_parts : Domain → List Part
domain_parts domain =
    (codes "elements", Some (array (entries_data domain.elements)))
    ∷ (codes "encoding", optional_text_part domain.encoding)
    ∷ (codes "format", number_part 1)
    ∷ (codes "topology", text_part domain.id)
    ∷ []

unfoldable pub domain_data : Domain → Data
domain_data domain = object_of (domain_parts domain)

-- the entries are numbered from this one, without a gap
abbrev pub AreCounted : ℕ → List Entry → Type 0
AreCounted n [] = Unit {0}
AreCounted n (entry ∷ rest) = (entry.number ≡ n) × AreCounted (n + 1) rest

abbrev pub AreKept : List Entry → Type 0
AreKept entries = AllByRecursion KeepsEntry entries

-- What one member of an element says. A member that is null is not there.
use Rattle.std.specs.Prelude.{ℕ, List, [], ◌∷◌, Bool, false, codes, is_some, Option, Some, None, option_and_then, Result, Ok, Err, if◌then◌else◌}
use Rattle.serde_json.specs.Data.{Data, Items, no_items, item}
use Rattle.serde_json.specs.Find.{get, as_null, as_str, as_bool, as_array, as_number, as_u64}
use Rattle.nml_elements.specs.declared.fault.MemberFault.{MemberFault}
use Rattle.nml_elements.specs.declared.fault.MemberFault.TheVariants.{Rule}
use Rattle.nml_elements.specs.Gives.{◌>>=◌}
use Rattle.nml_elements.specs.IdTest.{is_id}

abbrev pub present : Option Data → Option Data
present None = None
present (Some d) = if is_some (as_null d) then None else Some d

unfoldable pub part : List ℕ → Data → Option Data
part key d = present (get key d)

-- ---- ids

abbrev pub id_text : ℕ → Option (List ℕ) → Result (List ℕ) MemberFault
id_text rule None = Err (Rule rule)
id_text rule (Some s) = if is_id s then Ok s else Err (Rule rule)

unfoldable pub id_at : ℕ → Data → Result (List ℕ) MemberFault
id_at rule d = id_text rule (as_str d)

abbrev pub required_from : ℕ → Option Data → Result (List ℕ) MemberFault
required_from rule None = Err (Rule rule)
required_from rule (Some d) = id_at rule d

unfoldable pub required_id : ℕ → List ℕ → Data → Result (List ℕ) MemberFault
required_id rule key d = required_from rule (part key d)

abbrev pub optional_from : ℕ → Option Data → Result (Option (List ℕ)) MemberFault
optional_from rule None = Ok None
optional_from rule (Some d) = do
  id ← id_at rule d
  Ok (Some id)

unfoldable pub optional_id : ℕ → List ℕ → Data → Result (Option (List ℕ)) MemberFault
optional_id rule key d = optional_from rule (part key d)

-- ---- relations

unfoldable pub ids_at : Items → Result (List (List ℕ)) MemberFault
ids_at no_items = Ok []
ids_at (item d ds) = do
  id ← id_at 9 d
  ids ← ids_at ds
  Ok (id ∷ ids)

abbrev pub items_from : Option Items → Result (List (List ℕ)) MemberFault
items_from None = Err (Rule 9)
items_from (Some ds) = ids_at ds

unfoldable pub array_at : Data → Result (List (List ℕ)) MemberFault
array_at d = items_from (as_array d)

abbrev pub relation_from : Option Data → Result (List (List ℕ)) MemberFault
relation_from None = Ok []
relation_from (Some d) = array_at d

unfoldable pub relation : List ℕ → Data → Result (List (List ℕ)) MemberFault
relation key d = relation_from (part key d)

abbrev pub optional_relation_from : Option Data → Result (Option (List (List ℕ))) MemberFault
optional_relation_from None = Ok None
optional_relation_from (Some d) = do
  ids ← array_at d
  Ok (Some ids)

unfoldable pub optional_relation : List ℕ → Data → Result (Option (List (List ℕ))) MemberFault
optional_relation key d = optional_relation_from (part key d)

-- ---- numbers and truth values

abbrev pub whole : Data → Option ℕ
whole d = option_and_then as_u64 (as_number d)

abbrev pub cost_number : Option ℕ → Result ℕ MemberFault
cost_number None = Err (Rule 12)
cost_number (Some n) = Ok n

abbrev pub cost_from : Option Data → Result ℕ MemberFault
cost_from None = Ok 1
cost_from (Some d) = cost_number (whole d)

unfoldable pub cost_at : Data → Result ℕ MemberFault
cost_at d = cost_from (part (codes "cost") d)

abbrev pub swapping_bool : Option Bool → Result Bool MemberFault
swapping_bool None = Err (Rule 10)
swapping_bool (Some b) = Ok b

abbrev pub swapping_from : Option Data → Result Bool MemberFault
swapping_from None = Ok false
swapping_from (Some d) = swapping_bool (as_bool d)

unfoldable pub swapping_at : Data → Result Bool MemberFault
swapping_at d = swapping_from (part (codes "labelSwapping") d)

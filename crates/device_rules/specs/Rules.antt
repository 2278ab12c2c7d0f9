-- The rules of devices: which lists are laid out, by domain and within a domain by number.
use Rattle.std.specs.Prelude.{ℕ, ◌<◌, ◌^◌, List, [], ◌∷◌, ◌&&◌, Bool, IsTrue, Option, Some, None, nat_lt, if◌then◌else◌}
use Rattle.std.specs.Str.{bytes_eq}
use Rattle.device_rules.specs.declared.rules.Rule.{Rule}
use Rattle.place_names.specs.Names.{is_id, is_below, IsTag}

-- what stands before: nothing, or a domain with the number of its last rule, 0 where it has none yet
pub data At : Type 0 where
  Start : At
  In : List ℕ → ℕ → At

-- what stands before, where this is the rule before
abbrev pub after : Option Rule → At
after None = Start
after (Some r) = In r.hop.domain r.number

-- the numbers and texts are those of the types
pub record IsRule (r : Rule) : Type 0 where
  pub number : r.number < 2 ^ 64
  pub element : IsTrue (is_id r.hop.element)
  pub from : IsTrue (is_id r.hop.from)
  pub from_label : IsTag r.hop.from_label
  pub to : IsTrue (is_id r.hop.to)
  pub to_label : IsTag r.hop.to_label
  pub domain : IsTrue (is_id r.hop.domain)

-- by domain, and within a domain by number, from 1
abbrev pub may_follow : At → Rule → Bool
may_follow Start r = nat_lt 0 r.number
may_follow (In last n) r = if bytes_eq last r.hop.domain then nat_lt n r.number else nat_lt 0 n && (is_below last r.hop.domain && nat_lt 0 r.number)

-- in this order, and no domain is left without a rule
abbrev pub AreInOrder : At → List Rule → Type 0
AreInOrder Start [] = Unit {0}
AreInOrder (In last n) [] = 0 < n
AreInOrder at (r ∷ rs) = IsTrue (may_follow at r) × AreInOrder (In r.hop.domain r.number) rs

abbrev pub AreLaidOut : At → List Rule → Type 0
AreLaidOut Start [] = Unit {0}
AreLaidOut (In last n) [] = 0 < n
AreLaidOut at (r ∷ rs) = IsRule r × IsTrue (may_follow at r) × AreLaidOut (In r.hop.domain r.number) rs

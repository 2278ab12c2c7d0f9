-- Ids, labels and places as they are named: which texts and numbers are ones, and their orders.
use Rattle.std.specs.Prelude.{◌<◌, ◌^◌, ℕ, List, Bool, true, false, ◌&&◌, ◌||◌, Option, Some, None, IfSome, nat_lt, nat_le, length}
use Rattle.std.specs.List.{list_all}
use Rattle.std.specs.Ordering.{nat_cmp, is_lt}
use Rattle.std.specs.Cmp.Lexicographic.{slice_cmp}
use Rattle.std.specs.Str.{bytes_eq}
use Rattle.circuit_spec.specs.declared.hops.PlaceName.{PlaceName}

-- ---- ids and labels

-- 1 to 255 printable characters of ASCII other than the space
abbrev pub is_id : List ℕ → Bool
is_id word = list_all (λ b. nat_lt 32 b && nat_lt b 127) word && (nat_lt 0 (length word) && nat_le (length word) 255)

abbrev pub IsTag : Option ℕ → Type 0
IsTag label = IfSome label (λ n. n < 2 ^ 32)

-- ---- orders

-- in the order of their bytes
abbrev pub is_below : List ℕ → List ℕ → Bool
is_below a b = is_lt (slice_cmp nat_cmp a b)

-- no label, then the label as a number
abbrev pub is_tag_below : Option ℕ → Option ℕ → Bool
is_tag_below None None = false
is_tag_below None (Some b) = true
is_tag_below (Some a) None = false
is_tag_below (Some a) (Some b) = nat_lt a b

-- by port in byte order, then by label
abbrev pub is_place_below : PlaceName → PlaceName → Bool
is_place_below a b = is_below a.class b.class || (bytes_eq a.class b.class && is_tag_below a.label b.label)

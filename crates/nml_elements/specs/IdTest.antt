-- Whether a text is an id, as a test.
use Rattle.std.specs.Prelude.{ℕ, List, length, Bool, ◌&&◌, nat_le}
use Rattle.std.specs.List.{list_all}

abbrev pub is_visible : ℕ → Bool
is_visible byte = nat_le 0x21 byte && nat_le byte 0x7E

-- 1 to 255 bytes, each a printable character of ASCII other than the space
unfoldable pub is_id : List ℕ → Bool
is_id text = nat_le 1 (length text) && nat_le (length text) 255 && list_all is_visible text

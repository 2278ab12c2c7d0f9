-- What the test of an id says.
use Rattle.std.proofs.Common.{◌≡◌, refl, ℕ, ◌<◌, ◌≤◌, List, [], ◌∷◌, length, Bool, true, ◌&&◌, arith}
use Rattle.std.specs.Prelude.{nat_lt, nat_le}
use Rattle.std.specs.List.{list_all, AllByRecursion}
use Rattle.std.proofs.lemmas.Bool.{and_parts, and_from, leb-true, le-leb}
use Rattle.std.proofs.lemmas.Bool.Decides.{nat_tests}
use Rattle.std.proofs.lemmas.List.Elements.{All-from_recursion, recursion_from_All}
use Rattle.ml_base.specs.Text.{IsIdText}
use Rattle.place_names.specs.Names.{is_id}

pub below : (m n : ℕ) → nat_lt m n ≡ true → m < n
below m n h = grind (arith, nat_tests)

pub is_above : (m n : ℕ) → m < n → nat_lt m n ≡ true
is_above m n h = grind (arith, nat_tests)

abbrev is_printable : ℕ → Bool
is_printable b = nat_lt 32 b && nat_lt b 127

printable_to : (bytes : List ℕ) → list_all is_printable bytes ≡ true → AllByRecursion (λ byte. (0x21 ≤ byte) × (byte ≤ 0x7E)) bytes
printable_to [] h = tt
printable_to (b ∷ bytes) h =
    let p = and_parts (is_printable b) (list_all is_printable bytes) h in
    let q = and_parts (nat_lt 32 b) (nat_lt b 127) p.0 in
    ((omega (arith, below 32 b q.0), omega (arith, below b 127 q.1)), printable_to bytes p.1)

printable_from : (bytes : List ℕ) → AllByRecursion (λ byte. (0x21 ≤ byte) × (byte ≤ 0x7E)) bytes → list_all is_printable bytes ≡ true
printable_from [] h = refl
printable_from (b ∷ bytes) h = and_from (is_printable b) (list_all is_printable bytes) (and_from (nat_lt 32 b) (nat_lt b 127) (is_above 32 b (omega (arith, h.0.0))) (is_above b 127 (omega (arith, h.0.1)))) (printable_from bytes h.1)

pub id_text : (word : List ℕ) → is_id word ≡ true → IsIdText word
id_text word h =
    let p = and_parts (list_all is_printable word) (nat_lt 0 (length word) && nat_le (length word) 255) h in
    let q = and_parts (nat_lt 0 (length word)) (nat_le (length word) 255) p.1 in
    record { some = omega (arith, below 0 (length word) q.0); short = leb-true (length word) 255 q.1; printable = All-from_recursion (λ byte. (0x21 ≤ byte) × (byte ≤ 0x7E)) word (printable_to word p.0) }

pub text_id : (word : List ℕ) → IsIdText word → is_id word ≡ true
text_id word h =
    and_from (list_all is_printable word) (nat_lt 0 (length word) && nat_le (length word) 255)
    (printable_from word (recursion_from_All (λ byte. (0x21 ≤ byte) × (byte ≤ 0x7E)) word h.printable))
    (and_from (nat_lt 0 (length word)) (nat_le (length word) 255) (is_above 0 (length word) (omega (arith, h.some))) (le-leb (length word) 255 h.short))

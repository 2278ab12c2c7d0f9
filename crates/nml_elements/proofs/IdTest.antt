-- The test of ids passes exactly the texts of ids.
use Rattle.std.proofs.Common.{◌≡◌, ℕ, ◌≤◌, List, [], ◌∷◌, length, Bool, true, false, ◌&&◌, leb, refl}
use Rattle.std.specs.List.{list_all, AllByRecursion}
use Rattle.std.proofs.lemmas.Bool.{and_parts, and_from, le-leb, leb-true}
use Rattle.std.proofs.lemmas.List.Elements.{recursion_from_All, All-from_recursion}
use Rattle.ml_base.specs.Text.{IsIdText}
use Rattle.nml_elements.specs.IdTest.{is_visible, is_id}

abbrev IsVisible : ℕ → Type 0
IsVisible byte = (0x21 ≤ byte) × (byte ≤ 0x7E)

visible_all : (text : List ℕ) → list_all is_visible text ≡ true → AllByRecursion IsVisible text
visible_all [] h = tt
visible_all (b ∷ rest) h =
    let p = and_parts (is_visible b) (list_all is_visible rest) h in
    let q = and_parts (leb 0x21 b) (leb b 0x7E) p.0 in
    ((leb-true 0x21 b q.0, leb-true b 0x7E q.1), visible_all rest p.1)

all_visible : (text : List ℕ) → AllByRecursion IsVisible text → list_all is_visible text ≡ true
all_visible [] h = refl
all_visible (b ∷ rest) h =
    and_from (is_visible b) (list_all is_visible rest) (and_from (leb 0x21 b) (leb b 0x7E) (le-leb 0x21 b h.0.0) (le-leb b 0x7E h.0.1)) (all_visible rest h.1)

pub id_text : (text : List ℕ) → is_id text ≡ true → IsIdText text
unfolding is_id
id_text text h =
    let p = and_parts (leb 1 (length text) && leb (length text) 255) (list_all is_visible text) h in
    let q = and_parts (leb 1 (length text)) (leb (length text) 255) p.0 in
    record {
      some = leb-true 1 (length text) q.0;
      short = leb-true (length text) 255 q.1;
      printable = All-from_recursion IsVisible text (visible_all text p.1);
    }

pub text_id : (text : List ℕ) → IsIdText text → is_id text ≡ true
unfolding is_id
text_id text h =
    and_from (leb 1 (length text) && leb (length text) 255) (list_all is_visible text)
    (and_from (leb 1 (length text)) (leb (length text) 255) (le-leb 1 (length text) h.some) (le-leb (length text) 255 h.short)) (all_visible text (recursion_from_All IsVisible text h.printable))

by : (text : List ℕ) (b : Bool) → is_id text ≡ b → (IsIdText text → ⊥) → b ≡ false
by text true e none = absurd (none (id_text text e))
by text false e none = refl

pub no_id : (text : List ℕ) → (IsIdText text → ⊥) → is_id text ≡ false
no_id text none = by text (is_id text) refl none

-- Rows of three parts.
use Rattle.std.proofs.Common.{◌≡◌, List, Option, Some}
use Rattle.line_text.specs.declared.reading.Refused.{Refused}
use Rattle.line_text.specs.Fields.{Word, and_of}
use Rattle.line_text.specs.Cursor.{Fails}
use Rattle.line_text.specs.Taking.{take_word}
use Rattle.line_text.proofs.Taking.{fails_later, and_both}

-- the third part does not fit
pub fails_third : {A B C : Type 0} (first : Word → Option A) (second : Word → Option B) (third : List Word → Option C) (ws vs us : List Word) (a : A) (b : B) (e : Refused)
    → take_word first ws ≡ Some (a, vs) → take_word second vs ≡ Some (b, us) → Fails e (third us) → Fails e (and_of first (and_of second third) ws)
fails_third first second third ws vs us a b e p q h = fails_later first (and_of second third) ws vs a e p (fails_later second third vs us b e q h)

-- all three fit
pub all_three : {A B C : Type 0} (first : Word → Option A) (second : Word → Option B) (third : List Word → Option C) (ws vs us : List Word) (a : A) (b : B) (c : C)
    → take_word first ws ≡ Some (a, vs) → take_word second vs ≡ Some (b, us) → third us ≡ Some c → and_of first (and_of second third) ws ≡ Some (record { head = a; rest = record { head = b; rest = c } })
all_three first second third ws vs us a b c p q h = and_both first (and_of second third) ws vs a (record { head = b; rest = c }) p (and_both second third vs us b c q h)

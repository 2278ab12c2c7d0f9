-- A row of words that is taken word by word.
use Rattle.std.proofs.Common.{◌≡◌, ◌∙◌, refl, ap, List, [], ◌∷◌, Option, Some, None}
use Rattle.std.specs.Prelude.{option_map}
use Rattle.line_text.specs.Fields.{Word, and_of, with_head}
use Rattle.line_text.specs.Taking.{take_word}
use Rattle.line_text.specs.declared.reading.Refused.{Refused}
use Rattle.line_text.specs.declared.reading.Refused.TheVariants as refused
use Rattle.line_text.specs.Cursor.{Fails}

some_pair : {A : Type 0} (p q : A) → Some p ≡ Some q → p ≡ q
some_pair p q f = cc

taken : {A B : Type 0} (o : Option A) (b c : B) (a : A) → option_map {U = A × B} (λ x. (x, b)) o ≡ Some (a, c) → (o ≡ Some a) × (b ≡ c)
taken None b c a e = absurd cc
taken {A} {B} (Some x) b c a e =
    let same : (x, b) ≡ (a, c) = some_pair (x, b) (a, c) e in
    (ap (λ (p : A × B). Some p.0) same, ap (λ (p : A × B). p.1) same)

missing : {A B : Type 0} (o : Option A) (b : B) → option_map {U = A × B} (λ x. (x, b)) o ≡ None → o ≡ None
missing None b e = refl
missing (Some x) b e = absurd cc

pub and_first : {A B : Type 0} (read : Word → Option A) (f : List Word → Option B) (ws : List Word) → take_word read ws ≡ None → and_of read f ws ≡ None
and_first read f [] e = refl
and_first read f (w ∷ ws) e = ap (λ (o : Option _). with_head o (f ws)) (missing (read w) ws e)

pub and_later : {A B : Type 0} (read : Word → Option A) (f : List Word → Option B) (ws vs : List Word) (a : A) → take_word read ws ≡ Some (a, vs) → f vs ≡ None → and_of read f ws ≡ None
and_later read f [] vs a e g = absurd cc
and_later read f (w ∷ ws) vs a e g =
    let t = taken (read w) ws vs a e in
    ap (λ (o : Option _). with_head o (f ws)) t.0 ∙ ap (λ (us : List Word). with_head (Some a) (f us)) t.1 ∙ ap (λ (o : Option _). with_head (Some a) o) g

pub and_both : {A B : Type 0} (read : Word → Option A) (f : List Word → Option B) (ws vs : List Word) (a : A) (b : B) → take_word read ws ≡ Some (a, vs) → f vs ≡ Some b → and_of read f ws ≡ Some (record { head = a; rest = b })
and_both read f [] vs a b e g = absurd cc
and_both read f (w ∷ ws) vs a b e g =
    let t = taken (read w) ws vs a e in
    ap (λ (o : Option _). with_head o (f ws)) t.0 ∙ ap (λ (us : List Word). with_head (Some a) (f us)) t.1 ∙ ap (λ (o : Option _). with_head (Some a) o) g

pub fails_first : {A B : Type 0} (read : Word → Option A) (f : List Word → Option B) (ws : List Word) (e : Refused) → Fails e (take_word read ws) → Fails e (and_of read f ws)
fails_first read f ws refused.Misfit h = and_first read f ws h
fails_first read f ws refused.NoMemory h = tt

pub fails_later : {A B : Type 0} (read : Word → Option A) (f : List Word → Option B) (ws vs : List Word) (a : A) (e : Refused) → take_word read ws ≡ Some (a, vs) → Fails e (f vs) → Fails e (and_of read f ws)
fails_later read f ws vs a refused.Misfit t h = and_later read f ws vs a t h
fails_later read f ws vs a refused.NoMemory t h = tt

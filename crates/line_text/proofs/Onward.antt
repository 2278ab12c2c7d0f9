-- A text that is read line by line, from its front.
use Rattle.std.proofs.Common.{◌≡◌, ◌∙◌, refl, sym, ap, ℕ, suc, List, [], ◌∷◌, Option, Some, None, Result, Ok, Err}
use Rattle.line_text.specs.Lines.{Line, pieces, read_from, goes_on, closing, adding}
use Rattle.line_text.proofs.LineLaws.{first_piece}

-- a line, and then the rest
pub line_read : {S A : Type 0} (next : S → Line → Option (S × (A → A))) (end : S → Option A) (s : S) (n : ℕ) (rest line later : List ℕ) → pieces rest ≡ line ∷ pieces later
    → read_from next end s n (pieces rest) ≡ goes_on n (next s line) (λ t. read_from next end t (suc n) (pieces later))
line_read next end s n rest line later cut =
    let f = first_piece later in
    ap (read_from next end s n) (cut ∙ ap (λ (ps : List Line). line ∷ ps) f.2)
    ∙ ap (λ (ps : List Line). goes_on n (next s line) (λ t. read_from next end t (suc n) ps)) (sym f.2)

adding_twice : {A : Type 0} (f g add : A → A) (r : Result A ℕ) → ((a : A) → f (add a) ≡ g a) → adding f (adding add r) ≡ adding g r
adding_twice f g add (Ok a) h = ap (λ (b : _). Ok b) (h a)
adding_twice f g add (Err n) h = refl

-- a line that was taken
pub taken_on : {S A : Type 0} (next : S → Line → Option (S × (A → A))) (end : S → Option A) (s t : S) (n : ℕ) (rest line later : List ℕ) (f g add : A → A) (whole : Result A ℕ)
    → whole ≡ adding f (read_from next end s n (pieces rest)) → pieces rest ≡ line ∷ pieces later → next s line ≡ Some (t, add) → ((a : A) → f (add a) ≡ g a)
    → whole ≡ adding g (read_from next end t (suc n) (pieces later))
taken_on {S} {A} next end s t n rest line later f g add whole before cut leads same =
    before ∙ ap (adding f) (line_read next end s n rest line later cut)
    ∙ ap (λ (o : Option (S × (A → A))). adding f (goes_on n o (λ u. read_from next end u (suc n) (pieces later)))) leads
    ∙ adding_twice f g add (read_from next end t (suc n) (pieces later)) same

-- a line that does not fit
pub misfit_on : {S A : Type 0} (next : S → Line → Option (S × (A → A))) (end : S → Option A) (s : S) (n : ℕ) (rest line later : List ℕ) (f : A → A) (whole : Result A ℕ)
    → whole ≡ adding f (read_from next end s n (pieces rest)) → pieces rest ≡ line ∷ pieces later → next s line ≡ None → whole ≡ Err n
misfit_on {S} {A} next end s n rest line later f whole before cut none =
    before ∙ ap (adding f) (line_read next end s n rest line later cut)
    ∙ ap (λ (o : Option (S × (A → A))). adding f (goes_on n o (λ u. read_from next end u (suc n) (pieces later)))) none

-- the last piece
pub closed_on : {S A : Type 0} (next : S → Line → Option (S × (A → A))) (end : S → Option A) (s : S) (n : ℕ) (rest : List ℕ) (f : A → A) (whole : Result A ℕ)
    → whole ≡ adding f (read_from next end s n (pieces rest)) → pieces rest ≡ rest ∷ [] → whole ≡ adding f (closing n rest (end s))
closed_on next end s n rest f whole before cut = before ∙ ap (λ (ps : List Line). adding f (read_from next end s n ps)) cut

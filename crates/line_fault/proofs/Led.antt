-- A text that leads from state to state, read line by line from its front.
use Rattle.std.proofs.Common.{◌≡◌, ◌∙◌, refl, sym, ap, ℕ, suc, ◌+◌, List, [], ◌∷◌, ◌++◌, Option, Some, None, Result, Ok, Err, add-one}
use Rattle.std.specs.Prelude.{option_map, IfErr}
use Rattle.line_text.specs.Lines.{Line, pieces, read_from, goes_on, closing, adding, said, adding_more, text_of}
use Rattle.line_text.specs.Cursor.{Gives}
use Rattle.line_text.specs.declared.reading.Refused.{Refused}
use Rattle.line_text.specs.declared.reading.Refused.TheVariants as refused
use Rattle.line_text.proofs.LineLaws.{IsGrammar, refused_first}
use Rattle.line_text.proofs.Onward.{line_read}
use Rattle.line_fault.specs.declared.fault.LineFault.{LineFault}
use Rattle.line_fault.specs.declared.fault.LineFault.TheVariants as fault
use Rattle.line_fault.specs.Answering.{led, led_from, said_by, told_at, AnswersAs, NamesFirstMisfit}

adding_nothing : {A : Type 0} (r : Result A ℕ) → adding (λ a. a) r ≡ r
adding_nothing (Ok a) = refl
adding_nothing (Err n) = refl

-- a line that fits
pub led_on : {S A : Type 0} (step : S → Line → Option S) (end : S → Option A) (s t : S) (n : ℕ) (rest line later : List ℕ) (whole : Result A ℕ)
    → whole ≡ led_from step end s n (pieces rest) → pieces rest ≡ line ∷ pieces later → step s line ≡ Some t → whole ≡ led_from step end t (n + 1) (pieces later)
led_on {S} {A} step end s t n rest line later whole before cut leads =
    before ∙ line_read (led step) end s n rest line later cut
    ∙ ap (λ (o : Option S). goes_on n (option_map (λ u. (u, λ (a : A). a)) o) (λ u. led_from step end u (suc n) (pieces later))) leads
    ∙ adding_nothing (led_from step end t (suc n) (pieces later))
    ∙ ap (λ (k : ℕ). led_from step end t k (pieces later)) (sym (add-one n))

misfit_on : {S A : Type 0} (step : S → Line → Option S) (end : S → Option A) (s : S) (n : ℕ) (rest line later : List ℕ) (whole : Result A ℕ)
    → whole ≡ led_from step end s n (pieces rest) → pieces rest ≡ line ∷ pieces later → step s line ≡ None → whole ≡ Err n
misfit_on {S} {A} step end s n rest line later whole before cut none =
    before ∙ line_read (led step) end s n rest line later cut
    ∙ ap (λ (o : Option S). goes_on n (option_map (λ u. (u, λ (a : A). a)) o) (λ u. led_from step end u (suc n) (pieces later))) none

-- a line that was taken or refused, and told with its number
pub told_on : {S A T : Type 0} (step : S → Line → Option S) (end : S → Option A) (view : T → S) (s : S) (n : ℕ) (rest line later : List ℕ) (whole : Result A ℕ) (read : Result T Refused) (f : LineFault)
    → whole ≡ led_from step end s n (pieces rest) → pieces rest ≡ line ∷ pieces later → Gives view read (step s line) → Err f ≡ told_at n read → AnswersAs (Err f) whole
told_on step end view s n rest line later whole (Ok t) f before cut gives told = absurd cc
told_on step end view s n rest line later whole (Err refused.Misfit) (fault.Line m) before cut gives told =
    let same : m ≡ n = cc in
    misfit_on step end s n rest line later whole before cut gives ∙ ap (λ (k : ℕ). Err k) (sym same)
told_on step end view s n rest line later whole (Err refused.Misfit) fault.NoMemory before cut gives told = tt
told_on step end view s n rest line later whole (Err refused.NoMemory) (fault.Line m) before cut gives told = absurd cc
told_on step end view s n rest line later whole (Err refused.NoMemory) fault.NoMemory before cut gives told = tt

-- a line that was taken
pub taken : {S T : Type 0} (view : T → S) (n : ℕ) (next : Option S) (read : Result T Refused) (t : T) → Gives view read next → Ok t ≡ told_at n read → next ≡ Some (view t)
taken view n next (Ok t) u gives told =
    let same : u ≡ t = cc in
    gives ∙ ap (λ (x : _). Some (view x)) (sym same)
taken view n next (Err refused.Misfit) u gives told = absurd cc
taken view n next (Err refused.NoMemory) u gives told = absurd cc

-- the last piece
pub closed : {S A : Type 0} (step : S → Line → Option S) (end : S → Option A) (s : S) (n : ℕ) (rest : List ℕ) (whole : Result A ℕ)
    → whole ≡ led_from step end s n (pieces rest) → pieces rest ≡ rest ∷ [] → whole ≡ closing n rest (end s)
closed step end s n rest whole before cut = before ∙ ap (λ (ps : List Line). led_from step end s n ps) cut

-- ---- what whole lines say

pub led_said : {S A : Type 0} (step : S → Line → Option S) (end : S → Option A) (s t : S) (line : Line) (lines : List Line) → step s line ≡ Some t → said (led step) end s (line ∷ lines) ≡ said (led step) end t lines
led_said {S} {A} step end s t line lines leads =
    ap (λ (o : Option S). adding_more (option_map (λ u. (u, λ (a : A). a)) o) (λ u. said (led step) end u lines)) leads
    ∙ same (said (led step) end t lines)
  where
    same : (o : Option A) → option_map (λ a. a) o ≡ o
    same None = refl
    same (Some a) = refl

pub said_led : {S A : Type 0} (step : S → Line → Option S) (end : S → Option A) (s : S) (line : Line) (lines : List Line) (a : A) → said (led step) end s (line ∷ lines) ≡ Some a → (t : S) × (step s line ≡ Some t) × (said (led step) end t lines ≡ Some a)
said_led {S} {A} step end s line lines a e = by_step (step s line) refl e
  where
    unmapped : (o : Option A) → option_map (λ b. b) o ≡ Some a → o ≡ Some a
    unmapped None f = absurd cc
    unmapped (Some b) f = f

    by_step : (o : Option S) → step s line ≡ o → adding_more (option_map (λ u. (u, λ (b : A). b)) o) (λ u. said (led step) end u lines) ≡ Some a → (t : S) × (step s line ≡ Some t) × (said (led step) end t lines ≡ Some a)
    by_step None is f = absurd cc
    by_step (Some t) is f = (t, is, unmapped (said (led step) end t lines) f)

-- a refused number is that of the first line that does not fit
pub answered_first : {S A : Type 0} (step : S → Line → Option S) (end : S → Option A) (start : S) (IsText : List Line → Type 0) (g : IsGrammar (led step) end start IsText) (bytes : List ℕ) (r : Result A LineFault)
    → AnswersAs r (said_by step end start bytes) → IfErr r (NamesFirstMisfit IsText bytes)
answered_first step end start IsText g bytes (Ok a) e = tt
answered_first step end start IsText g bytes (Err (fault.Line n)) e = refused_first (led step) end start IsText g bytes n e
answered_first step end start IsText g bytes (Err fault.NoMemory) e = tt

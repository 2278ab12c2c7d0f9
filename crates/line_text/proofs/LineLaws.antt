-- The first line that does not fit, for every grammar whose states can all be finished.
use Rattle.std.proofs.Common.{◌≡◌, ◌∙◌, refl, sym, ap, ℕ, suc, ◌+◌, List, [], ◌∷◌, ◌++◌, length, Option, Some, None, Result, Ok, Err, append_assoc, arith, ◌⊎◌, inl, inr}
use Rattle.std.specs.Prelude.{option_map}
use Rattle.std.proofs.lemmas.List.{append-nil}
use Rattle.std.proofs.lemmas.List.Splits.{length-slice_split}
use Rattle.std.specs.List.{AllByRecursion}
use Rattle.std.specs.Prelude.{nat_eq}
use Rattle.line_text.proofs.Words.{IsAbove, pieces_again, text_is}
use Rattle.line_text.specs.Lines.{Line, Misfits, IsFirstMisfit, text_of, pieces, read_from, goes_on, closing, adding, said, adding_more}

abbrev Next : Type 0 → Type 0 → Type 0
Next S A = S → Line → Option (S × (A → A))

-- the lines lead from one state to another
abbrev pub Leads : {S A : Type 0} → Next S A → S → List Line → S → Type 0
Leads next s [] t = s ≡ t
Leads next s (line ∷ lines) t = (step : _ × _) × (next s line ≡ Some step) × Leads next step.0 lines t

-- nothing fits in this state
abbrev pub Stuck : {S A : Type 0} → Next S A → (S → Option A) → S → List Line → Type 0
Stuck next end s [] = ⊥
Stuck next end s (piece ∷ []) = (a : _) → piece ≡ [] → end s ≡ Some a → ⊥
Stuck next end s (line ∷ piece ∷ more) = next s line ≡ None

some_is : {A B : Type 0} (f : A → B) (o : Option A) (b : B) → option_map f o ≡ Some b → (a : A) × (o ≡ Some a) × (f a ≡ b)
some_is f None b e = absurd cc
some_is f (Some a) b e = (a, refl, cc)

pub more_is : {S A : Type 0} (o : Option (S × (A → A))) (later : S → Option A) (a : A) → adding_more o later ≡ Some a → (step : S × (A → A)) × (o ≡ Some step) × (b : A) × (later step.0 ≡ Some b) × (step.1 b ≡ a)
more_is None later a e = absurd cc
more_is (Some step) later a e =
    let i = some_is step.1 (later step.0) a e in
    (step, refl, i.0, i.1, i.2)

-- lines before lines that say something say something
pub said_before : {S A : Type 0} (next : Next S A) (end : S → Option A) (lines more : List Line) (s t : S) (a : A) → Leads next s lines t → said next end t more ≡ Some a → (b : A) × (said next end s (lines ++ more) ≡ Some b)
said_before next end [] more s t a leads e = (a, ap (λ (u : _). said next end u more) leads ∙ e)
said_before next end (line ∷ lines) more s t a (step, one, leads) e =
    let later = said_before next end lines more step.0 t a leads e in
    (step.1 later.0, rw one (ap (option_map step.1) later.1))

-- and what they say is said behind the first ones too
pub said_behind : {S A : Type 0} (next : Next S A) (end : S → Option A) (lines more : List Line) (s t : S) (a : A) → Leads next s lines t → said next end s (lines ++ more) ≡ Some a → (b : A) × (said next end t more ≡ Some b)
said_behind next end [] more s t a leads e = (a, ap (λ (u : _). said next end u more) (sym leads) ∙ e)
said_behind next end (line ∷ lines) more s t a (step, one, leads) e =
    let m = more_is (next s line) (λ u. said next end u (lines ++ more)) a e in
    let same : m.0 ≡ step = cc in
    said_behind next end lines more step.0 t m.2 leads (ap (λ (u : _). said next end u.0 (lines ++ more)) (sym same) ∙ m.3)

-- ---- reading by pieces

closed : {A : Type 0} (n : ℕ) (piece : Line) (end : Option A) (a : A) → closing n piece end ≡ Ok a → (piece ≡ []) × (end ≡ Some a)
closed n [] None a e = absurd cc
closed n [] (Some b) a e = (refl, cc)
closed n (b ∷ bs) end a e = absurd cc

added : {A : Type 0} (add : A → A) (r : Result A ℕ) (a : A) → adding add r ≡ Ok a → (b : A) × (r ≡ Ok b) × (add b ≡ a)
added add (Ok b) a e = (b, refl, cc)
added add (Err n) a e = absurd cc

went_on : {S A : Type 0} (n : ℕ) (o : Option (S × (A → A))) (later : S → Result A ℕ) (a : A) → goes_on n o later ≡ Ok a → (step : S × (A → A)) × (o ≡ Some step) × (b : A) × (later step.0 ≡ Ok b) × (step.1 b ≡ a)
went_on n None later a e = absurd cc
went_on n (Some step) later a e =
    let i = added step.1 (later step.0) a e in
    (step, refl, i.0, i.1, i.2)

-- what is read is said by whole lines
pub read_said : {S A : Type 0} (next : Next S A) (end : S → Option A) (s : S) (n : ℕ) (ps : List Line) (a : A) → read_from next end s n ps ≡ Ok a → (lines : List Line) × (ps ≡ lines ++ [] ∷ []) × (said next end s lines ≡ Some a)
read_said next end s n [] a e = absurd cc
read_said next end s n (piece ∷ []) a e =
    let c = closed n piece (end s) a e in
    ([], ap (λ (p : Line). p ∷ []) c.0, c.1)
read_said {S} {A} next end s n (line ∷ piece ∷ more) a e =
    let w = went_on n (next s line) (λ t. read_from next end t (suc n) (piece ∷ more)) a e in
    let later = read_said next end w.0.0 (suc n) (piece ∷ more) w.2 w.3 in (
      line ∷ later.0,
      ap (λ (ls : List Line). line ∷ ls) later.1,
      ap (λ (o : Option (S × (A → A))). adding_more o (λ t. said next end t later.0)) w.1 ∙ ap (option_map w.0.1) later.2 ∙ ap (λ (b : A). Some b) w.4,
    )

behind_line : (line : Line) (lines : List Line) → (piece : Line) × (more : List Line) × (lines ++ [] ∷ [] ≡ piece ∷ more)
behind_line line [] = ([], [], refl)
behind_line line (l ∷ ls) = (l, ls ++ [] ∷ [], refl)

-- what whole lines say is read
pub said_read : {S A : Type 0} (next : Next S A) (end : S → Option A) (s : S) (n : ℕ) (lines : List Line) (a : A) → said next end s lines ≡ Some a → read_from next end s n (lines ++ [] ∷ []) ≡ Ok a
said_read next end s n [] a e = rw e refl
said_read {S} {A} next end s n (line ∷ lines) a e =
    let m = more_is (next s line) (λ t. said next end t lines) a e in
    let b = behind_line line lines in
    let later = said_read next end m.0.0 (suc n) lines m.2 m.3 in
    ap (λ (ls : List Line). read_from next end s n (line ∷ ls)) b.2
    ∙ ap (λ (ls : List Line). goes_on n (next s line) (λ t. read_from next end t (suc n) ls)) (sym b.2)
    ∙ ap (λ (o : Option (S × (A → A))). goes_on n o (λ t. read_from next end t (suc n) (lines ++ [] ∷ []))) m.1
    ∙ ap (adding m.0.1) later
    ∙ ap (λ (b : A). Ok b) m.4

-- ---- the first piece that does not fit

pub record Stops {S A : Type 0} (next : Next S A) (end : S → Option A) (s : S) (n : ℕ) (ps : List Line) (m : ℕ) : Type 0 where
  pub before : List Line
  pub rest : List Line
  pub state : S
  pub parts : ps ≡ before ++ rest
  pub number : m ≡ n + length before
  pub leads : Leads next s before state
  pub stuck : Stuck next end state rest

open_end : {A : Type 0} (n m : ℕ) (piece : Line) (end : Option A) → closing n piece end ≡ Err m → (m ≡ n) × ((a : A) → piece ≡ [] → end ≡ Some a → ⊥)
open_end n m [] None e = (cc, λ a p o. absurd cc)
open_end n m [] (Some b) e = absurd cc
open_end n m (b ∷ bs) end e = (cc, λ a p o. absurd cc)

fails : {A : Type 0} (add : A → A) (r : Result A ℕ) (m : ℕ) → adding add r ≡ Err m → r ≡ Err m
fails add (Ok b) m e = absurd cc
fails add (Err n) m e = cc

stops_at : {S A : Type 0} (n m : ℕ) (o : Option (S × (A → A))) (later : S → Result A ℕ) → goes_on n o later ≡ Err m → ((o ≡ None) × (m ≡ n)) ⊎ ((step : S × (A → A)) × (o ≡ Some step) × (later step.0 ≡ Err m))
stops_at n m None later e = inl (refl, cc)
stops_at n m (Some step) later e = inr (step, refl, fails step.1 (later step.0) m e)

pub stops : {S A : Type 0} (next : Next S A) (end : S → Option A) (s : S) (n m : ℕ) (piece : Line) (ps : List Line) → read_from next end s n (piece ∷ ps) ≡ Err m → Stops next end s n (piece ∷ ps) m
stops next end s n m piece [] e =
    let o = open_end n m piece (end s) e in
    record { before = []; rest = piece ∷ []; state = s; parts = refl; number = omega (arith, o.0); leads = refl; stuck = o.1 }
stops next end s n m line (piece ∷ more) e =
    elim (stops_at n m (next s line) (λ t. read_from next end t (suc n) (piece ∷ more)) e) [
      | inl here ↦ record { before = []; rest = line ∷ piece ∷ more; state = s; parts = refl; number = omega (arith, here.1); leads = refl; stuck = here.0 }
      | inr there ↦
          let later = stops next end there.0.0 (suc n) m piece more there.2 in
          record { before = line ∷ later.before; rest = later.rest; state = later.state; parts = ap (λ (ls : List Line). line ∷ ls) later.parts; number = omega (arith, later.number); leads = (there.0, there.1, later.leads); stuck = later.stuck }
    ]

-- what the lines of documents are, for a grammar whose states can all be finished
pub record IsGrammar {S A : Type 0} (next : Next S A) (end : S → Option A) (s : S) (IsDocument : List Line → Type 0) : Type 0 where
  pub found : (lines : List Line) (a : A) → said next end s lines ≡ Some a → IsDocument lines
  pub only : (lines : List Line) → IsDocument lines → (a : A) × (said next end s lines ≡ Some a)
  pub finished : (t : S) → (more : List Line) × (a : A) × (said next end t more ≡ Some a)

misfits : {S A : Type 0} (next : Next S A) (end : S → Option A) (s t : S) (IsDocument : List Line → Type 0) (g : IsGrammar next end s IsDocument) (before rest : List Line) → Leads next s before t → Stuck next end t rest → Misfits IsDocument before rest
misfits next end s t D g before [] leads stuck = stuck
misfits next end s t D g before (piece ∷ []) leads stuck = λ (empty, document).
    let o = g.only before document in
    let b = said_behind next end before [] s t o.0 leads (rw append-nil o.1) in
    stuck b.0 empty b.1
misfits next end s t D g before (line ∷ piece ∷ more) leads stuck = λ (others, document).
    let o = g.only ((before ++ line ∷ []) ++ others) document in
    let b = said_behind next end before (line ∷ others) s t o.0 leads (rw (← append_assoc before (line ∷ []) others) o.1) in
    let m = more_is (next t line) (λ u. said next end u others) b.0 b.1 in
    absurd cc

-- a refused number is that of the first line that does not fit
pub first_misfit : {S A : Type 0} (next : Next S A) (end : S → Option A) (s : S) (IsDocument : List Line → Type 0) (g : IsGrammar next end s IsDocument) (bytes : List ℕ) (piece : Line) (ps : List Line) (m : ℕ) → pieces bytes ≡ piece ∷ ps → read_from next end s 1 (pieces bytes) ≡ Err m → IsFirstMisfit IsDocument bytes m
first_misfit next end s D g bytes piece ps m parts e =
    let i = stops next end s 1 m piece ps (ap (λ (qs : List Line). read_from next end s 1 qs) (sym parts) ∙ e) in
    let f = g.finished i.state in
    let whole = said_before next end i.before f.0 s i.state f.1 i.leads f.2 in
    record { before = i.before; rest = i.rest; parts = parts ∙ i.parts; number = omega (arith, i.number); front = (f.0, g.found (i.before ++ f.0) whole.0 whole.1); misfit = misfits next end s i.state D g i.before i.rest i.leads i.stuck }

-- ---- texts

pub first_piece : (bytes : List ℕ) → (piece : Line) × (ps : List Line) × (pieces bytes ≡ piece ∷ ps)
first_piece bytes = some_part (pieces bytes) _ (length-slice_split (λ b. nat_eq b 10) bytes)
  where
    some_part : (ps : List Line) (n : ℕ) → length ps ≡ n + 1 → (piece : Line) × (qs : List Line) × (ps ≡ piece ∷ qs)
    some_part [] n e = absurd (omega (arith, e))
    some_part (p ∷ ps) n e = (p, ps, refl)

pub refused_first : {S A : Type 0} (next : Next S A) (end : S → Option A) (s : S) (IsDocument : List Line → Type 0) (g : IsGrammar next end s IsDocument) (bytes : List ℕ) (m : ℕ) → read_from next end s 1 (pieces bytes) ≡ Err m → IsFirstMisfit IsDocument bytes m
refused_first next end s D g bytes m e =
    let f = first_piece bytes in
    first_misfit next end s D g bytes f.0 f.1 m f.2 e

pub text_read : {S A : Type 0} (next : Next S A) (end : S → Option A) (s : S) (lines : List Line) (a : A) → AllByRecursion (IsAbove 10) lines → said next end s lines ≡ Some a → read_from next end s 1 (pieces (text_of lines)) ≡ Ok a
text_read next end s lines a whole e = ap (read_from next end s 1) (pieces_again lines whole) ∙ said_read next end s 1 lines a e

pub read_text : {S A : Type 0} (next : Next S A) (end : S → Option A) (s : S) (bytes : List ℕ) (a : A) → read_from next end s 1 (pieces bytes) ≡ Ok a → (lines : List Line) × (bytes ≡ text_of lines) × (said next end s lines ≡ Some a)
read_text next end s bytes a e =
    let r = read_said next end s 1 (pieces bytes) a e in
    (r.0, text_is bytes r.0 r.1, r.2)

-- Pairs with the numbers of their rows.
use Rattle.std.proofs.Common.{◌≡◌, ℕ, ◌+◌, ◌<◌, ◌⊎◌, List, [], length, refl, sym, ◌∙◌, ap, subst, inl, inr, arith, Some, None, Option, slice_get}
use Rattle.std.specs.Prelude.{Bool, true, false, cond, is_some}
use Rattle.std.proofs.lemmas.Grind.{common_steps}
use Rattle.ml_base.specs.declared.numbers.StateNo.{StateNo}
use Rattle.ml_base.specs.declared.numbers.FrameNo.{FrameNo}
use Rattle.ml_base.specs.declared.numbers.StepNo.{StepNo}
use Rattle.adapt_machine.specs.declared.MachineStep.{MachineStep}
use Rattle.adapt_machine.specs.declared.MachineKind.{MachineKind}
use Rattle.adapt_machine.specs.declared.MachineKind.TheVariants.{Flat, Push, Pop}
use Rattle.segment_grammar.specs.Rows.{row_of}
use Rattle.segment_grammar.specs.Index.{IsPopAt, ListsSteps}
use Rattle.segment_grammar.specs.FrameRows.{is_pair, numbered, row_found, IsNumbering, ArePopsNumbered}
use Rattle.segment_grammar.specs.Grouped.{for_pop}
use Rattle.segment_grammar.proofs.Places.{same_at}
use Rattle.segment_grammar.proofs.Filing.{below_cases, lists_same}

pub same_pair : (a b c d : ℕ) → is_pair a b c d ≡ true → (a ≡ c) × (b ≡ d)
same_pair a b c d e = grind (arith, common_steps)

pub pair_itself : (a b : ℕ) → is_pair a b a b ≡ true
pair_itself a b = grind (arith, common_steps)

pub bool_cases : (b : Bool) → (b ≡ true) ⊎ (b ≡ false)
bool_cases true = inl refl
bool_cases false = inr refl

-- the next number is given to a pair that has none
module _ (old new : List ((ℕ × ℕ) × ℕ)) (a b n : ℕ) (updates : (q : ℕ × ℕ) → numbered new q.0 q.1 ≡ cond (is_pair a b q.0 q.1) (Some n) (numbered old q.0 q.1)) where
  number_here : (c d : ℕ) → is_pair a b c d ≡ true → numbered new c d ≡ Some n
  number_here c d e = updates (c, d) ∙ ap (λ v. cond v (Some n) (numbered old c d)) e

  number_apart : (c d : ℕ) → is_pair a b c d ≡ false → numbered new c d ≡ numbered old c d
  number_apart c d e = updates (c, d) ∙ ap (λ v. cond v (Some n) (numbered old c d)) e

  number_cases : (c d i : ℕ) → numbered new c d ≡ Some i → ((a ≡ c) × (b ≡ d) × (i ≡ n)) ⊎ (numbered old c d ≡ Some i)
  number_cases c d i e = go (bool_cases (is_pair a b c d))
    where
      is_n : is_pair a b c d ≡ true → i ≡ n
      is_n t = let h : numbered new c d ≡ Some n = number_here c d t in cc

      go : (is_pair a b c d ≡ true) ⊎ (is_pair a b c d ≡ false) → ((a ≡ c) × (b ≡ d) × (i ≡ n)) ⊎ (numbered old c d ≡ Some i)
      go (inl t) = let s : (a ≡ c) × (b ≡ d) = same_pair a b c d t in inl (s.0, s.1, is_n t)
      go (inr f) = inr (sym (number_apart c d f) ∙ e)

  pub numbering_more : (m : ℕ) → m ≡ n + 1 → IsNumbering old n → IsNumbering new m
  numbering_more m more old_is = record {
    below = λ c d i e. elim (number_cases c d i e) as (λ v. i < m) [ inl x ↦ let y : i ≡ n = x.2 in omega arith | inr x ↦ omega (arith, old_is.below c d i x) ];
    once = λ c d e f i x y. go c d e f i (number_cases c d i x) (number_cases e f i y);
  }
    where
      go : (c d e f i : ℕ) → ((a ≡ c) × (b ≡ d) × (i ≡ n)) ⊎ (numbered old c d ≡ Some i) → ((a ≡ e) × (b ≡ f) × (i ≡ n)) ⊎ (numbered old e f ≡ Some i) → (c ≡ e) × (d ≡ f)
      go c d e f i (inl x) (inl y) = (sym x.0 ∙ y.0, sym x.1 ∙ y.1)
      go c d e f i (inl x) (inr y) = let z : i ≡ n = x.2 in absurd (omega (arith, old_is.below e f i y))
      go c d e f i (inr x) (inl y) = let z : i ≡ n = y.2 in absurd (omega (arith, old_is.below c d i x))
      go c d e f i (inr x) (inr y) = old_is.once c d e f i x y

  -- the numbers that were given stay
  pub numbers_kept : numbered old a b ≡ None → (c d i : ℕ) → numbered old c d ≡ Some i → numbered new c d ≡ Some i
  numbers_kept none c d i e = go (bool_cases (is_pair a b c d))
    where
      had : (a ≡ c) × (b ≡ d) → numbered old c d ≡ None
      had s = subst (λ v. numbered old v d ≡ None) s.0 (subst (λ v. numbered old a v ≡ None) s.1 none)

      not_none : numbered old c d ≡ None → ⊥
      not_none m = cc

      go : (is_pair a b c d ≡ true) ⊎ (is_pair a b c d ≡ false) → numbered new c d ≡ Some i
      go (inl t) = absurd (not_none (had (same_pair a b c d t)))
      go (inr f) = number_apart c d f ∙ e

  pub number_found : (i : ℕ) × (numbered new a b ≡ Some i)
  number_found = (n, number_here a b (pair_itself a b))

-- one more step is numbered
module _ (steps : List MachineStep) (n : ℕ) (t : MachineStep) (found : slice_get steps n ≡ Some t) where
  pub pops_more : (old new : List ((ℕ × ℕ) × ℕ)) (count more : ℕ) → IsNumbering new more → ((a b i : ℕ) → numbered old a b ≡ Some i → numbered new a b ≡ Some i)
      → (t.kind ≡ Pop → (i : ℕ) × (numbered new t.from.0 t.frame.0 ≡ Some i)) → ArePopsNumbered steps n old count → ArePopsNumbered steps (n + 1) new more
  pops_more old new count more is kept here before = record { numbering = is; all = λ k a l f p. go k a f p (below_cases k n l) }
    where
      go : (k : ℕ) (a : MachineStep) → slice_get steps k ≡ Some a → a.kind ≡ Pop → (k < n) ⊎ (k ≡ n) → (i : ℕ) × (numbered new a.from.0 a.frame.0 ≡ Some i)
      go k a f p (inl b) = let m = before.all k a b f p in (m.0, kept a.from.0 a.frame.0 m.0 m.1)
      go k a f p (inr e) =
          let same : t ≡ a = same_at steps n t a found (subst (λ v. slice_get steps v ≡ Some a) e f) in
          subst (λ v. (i : ℕ) × (numbered new v.from.0 v.frame.0 ≡ Some i)) same (here (ap (λ v. v.kind) same ∙ p))

-- the row of a pop is the number of its pair
pub pop_row : (kind : MachineKind) (row : Option ℕ) (i : ℕ) → for_pop kind row ≡ Some i → (kind ≡ Pop) × (row ≡ Some i)
pop_row Flat row i e = absurd (cc)
pop_row Push row i e = absurd (cc)
pop_row Pop row i e = (refl, e)

pub row_pop : (kind : MachineKind) (row : Option ℕ) → kind ≡ Pop → for_pop kind row ≡ row
row_pop kind row e = ap (λ k. for_pop k row) e

pub state_same : (a b : StateNo) → a.0 ≡ b.0 → a ≡ b
state_same a b e = let make : ℕ → StateNo = λ n. record { 0 = n } in ap make e

frame_same : (a b : FrameNo) → a.0 ≡ b.0 → a ≡ b
frame_same a b e = let make : ℕ → FrameNo = λ n. record { 0 = n } in ap make e

-- the rows of numbers, asked for by pair
pub pops_listed : (steps : List MachineStep) (numbers : List ((ℕ × ℕ) × ℕ)) (count : ℕ) (rows : List (List StepNo)) → ArePopsNumbered steps (length steps) numbers count
    → ((s : ℕ) → s < count → ListsSteps steps (length steps) (λ t. for_pop t.kind (numbered numbers t.from.0 t.frame.0) ≡ Some s) (row_of rows s))
    → (s : StateNo) (f : FrameNo) → ListsSteps steps (length steps) (IsPopAt s f) (row_found rows (numbered numbers s.0 f.0))
pops_listed steps numbers count rows are lists s f = go (numbered numbers s.0 f.0) refl
  where
    at_pair : (t : MachineStep) → IsPopAt s f t → numbered numbers t.from.0 t.frame.0 ≡ numbered numbers s.0 f.0
    at_pair t h = ap (λ v. numbered numbers v.0 t.frame.0) h.1 ∙ ap (λ v. numbered numbers s.0 v.0) h.2

    not_some : (o : Option ℕ) (i : ℕ) → o ≡ None → o ≡ Some i → ⊥
    not_some o i a b = cc

    nothing_at : (i : ℕ) (k : StepNo) → slice_get [] i ≡ Some k → ⊥
    nothing_at i k x = cc

    go : (o : Option ℕ) → numbered numbers s.0 f.0 ≡ o → ListsSteps steps (length steps) (IsPopAt s f) (row_found rows o)
    go None e = record {
      all = λ k t l g h. let m = are.all k t l g h.0 in absurd (not_some (numbered numbers s.0 f.0) m.0 e (sym (at_pair t h) ∙ m.1));
      only = λ k c. absurd (omega (arith, c.1));
      rising = λ i j k l b x y. absurd (nothing_at i k x);
    }
    go (Some i) e = lists_same steps (length steps) (λ t. for_pop t.kind (numbered numbers t.from.0 t.frame.0) ≡ Some i) (IsPopAt s f) (row_of rows i) to back (lists i (are.numbering.below s.0 f.0 i e))
      where
        to : (t : MachineStep) → for_pop t.kind (numbered numbers t.from.0 t.frame.0) ≡ Some i → IsPopAt s f t
        to t p =
            let q = pop_row t.kind (numbered numbers t.from.0 t.frame.0) i p in
            let same = are.numbering.once t.from.0 t.frame.0 s.0 f.0 i q.1 e in
            (q.0, state_same t.from s same.0, frame_same t.frame f same.1)

        back : (t : MachineStep) → IsPopAt s f t → for_pop t.kind (numbered numbers t.from.0 t.frame.0) ≡ Some i
        back t h = row_pop t.kind (numbered numbers t.from.0 t.frame.0) h.0 ∙ at_pair t h ∙ e

pub some_found : (o : Option ℕ) → is_some o ≡ true → (i : ℕ) × (o ≡ Some i)
some_found None e = absurd (cc)
some_found (Some i) e = (i, refl)

pub none_found : (o : Option ℕ) → is_some o ≡ false → o ≡ None
none_found None e = refl
none_found (Some i) e = absurd (cc)

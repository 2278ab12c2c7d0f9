-- Candidates that are offered.
use Rattle.std.proofs.Common.{◌≡◌, ℕ, ◌+◌, ◌<◌, ◌⊎◌, List, ◌∷◌, length, refl, sym, ◌∙◌, ap, subst, inl, inr, arith, Contains, Some, slice_get, zero as nought, suc, slice_index_or}
use Rattle.std.proofs.lemmas.Bool.{cases_lt}
use Rattle.std.proofs.Math.ListN.{get_or}
use Rattle.std.proofs.lemmas.List.Elements.{Contains-get_or}
use Rattle.ml_base.specs.declared.numbers.StepNo.{StepNo}
use Rattle.ml_base.specs.declared.numbers.StateNo.{StateNo}
use Rattle.ml_base.specs.declared.numbers.Root.{Root}
use Rattle.adapt_machine.specs.Machine.{MachineValue}
use Rattle.adapt_machine.specs.declared.MachineKind.{MachineKind}
use Rattle.adapt_machine.specs.declared.MachineKind.TheVariants.{Push, Pop}
use Rattle.knuth_search.specs.Derived.{Task}
use Rattle.ml_base.specs.declared.numbers.Root.TheVariants.{Entry}
use Rattle.ml_base.specs.declared.weight.Weight.{Weight}
use Rattle.ml_base.specs.Weight.{capped_total}
use Rattle.adapt_machine.specs.declared.MachineStep.{MachineStep}
use Rattle.segment_grammar.specs.declared.potentials.Pot.{Pot}
use Rattle.segment_grammar.specs.Pots.{pot}
use Rattle.segment_grammar.specs.Index.{ListsSteps, IsPushFrom, IsPushInto, IsPopAt}
use Rattle.segment_grammar.proofs.Places.{contains_at, at_contains, same_at, slice_get-below}
use Rattle.knuth_search.specs.Following.{zero, stepped, IsCovered, IsStepOf, FlatBy, OpenedBy, NestedBy, Enters, Meets, Closes, PushedBy, Fills, SomePot, Among, IsOffered, Offers}
use Rattle.knuth_search.specs.declared.derived.Derived.{Derived}
use Rattle.knuth_search.specs.Tables.{Queued, IsLeftBy, IsKept, IsUnder, IsAt, HasPot, ListsPairs, pot_of}

pub contains_cases : {X : Type 0} (x y : X) (xs : List X) → Contains (x ∷ xs) y → Contains xs y ⊎ (y ≡ x)
contains_cases x y xs p = go p.0 p.1 p.2
  where
    go : (k : ℕ) → k < length (x ∷ xs) → slice_index_or (x ∷ xs) k y ≡ y → Contains xs y ⊎ (y ≡ x)
    go nought l e = inr (sym e)
    go (suc k) l e = inl (k, omega arith, e)

-- nothing follows
pub offers_none : (R : Pot → Type 0) (old : Queued) → ((p : Pot) → R p → ⊥) → Offers R old old
offers_none R old none = record { kept = λ p h. h; waits = λ p h. h; held = λ p h. inl h; all = λ p r. absurd (none p r) }

-- one follows, and it was offered
pub offers_covered : (R : Pot → Type 0) (old : Queued) (x : Pot) → IsOffered old x → ((p : Pot) → R p → p ≡ x) → Offers R old old
offers_covered R old x o is = record { kept = λ p h. h; waits = λ p h. h; held = λ p h. inl h; all = λ p r. subst (λ v. IsOffered old v) (sym (is p r)) o }

pub offers_same : (R S : Pot → Type 0) (old new : Queued) → Offers R old new → ((p : Pot) → S p → R p) → Offers S old new
offers_same R S old new offers back = record { kept = offers.kept; waits = offers.waits; held = offers.held; all = λ p s. offers.all p (back p s) }

-- one follows, and it is offered
pub offers_pushed : (R : Pot → Type 0) (old new : Queued) (x : Pot) → Offers (λ p. p ≡ x) old new → ((p : Pot) → R p → p ≡ x) → Offers R old new
offers_pushed R old new x offers is = offers_same (λ p. p ≡ x) R old new offers is

pub covered_in : (list list' : List Pot) → ((p : Pot) → Contains list p → Contains list' p) → (p : Pot) → IsCovered list p → IsCovered list' p
covered_in list list' kept p c = record { weight = c.weight; listed = kept (pot p.root p.state c.weight) c.listed; at_most = c.at_most }

pub offers_then : (R S U : Pot → Type 0) (old now new : Queued) → Offers R old now → Offers S now new → ((p : Pot) → U p → R p ⊎ S p) → Offers U old new
offers_then R S U old now new first second back = record {
  kept = λ p h. second.kept p (first.kept p h);
  waits = λ p h. second.waits p (first.waits p h);
  held = λ p h. elim (second.held p h) as (λ v. IsOffered old p ⊎ IsCovered new.waiting p) [
    | inl o ↦ elim (first.held p o) as (λ v. IsOffered old p ⊎ IsCovered new.waiting p) [ inl a ↦ inl a | inr c ↦ inr (covered_in now.waiting new.waiting second.waits p c) ]
    | inr c ↦ inr c
  ];
  all = λ p u. elim (back p u) as (λ v. IsOffered new p) [ inl r ↦ second.kept p (first.all p r) | inr s ↦ second.all p s ];
}

-- before a number, or at it
pub number_cases : (i n : ℕ) → i < n + 1 → (i < n) ⊎ (i ≡ n)
number_cases i n l = elim (cases_lt i n) as (λ v. (i < n) ⊎ (i ≡ n)) [ inl a ↦ inl a | inr b ↦ inr (omega arith) ]

module _ {X : Type 0} (R : X → Pot → Type 0) (xs : List X) where
  among_cases : (n : ℕ) (x : X) → slice_get xs n ≡ Some x → (p : Pot) → Among R xs (n + 1) p → Among R xs n p ⊎ R x p
  among_cases n x found p a = go (number_cases a.number n a.early)
    where
      go : (a.number < n) ⊎ (a.number ≡ n) → Among R xs n p ⊎ R x p
      go (inl l) = inl (record { number = a.number; early = l; item = a.item; found = a.found; gives = a.gives })
      go (inr e) = inr (subst (λ v. R v p) (same_at xs n a.item x (subst (λ i. slice_get xs i ≡ Some a.item) e a.found) found) a.gives)

  -- a loop's step
  pub offers_more : (n : ℕ) (x : X) → slice_get xs n ≡ Some x → (old now new : Queued) → Offers (Among R xs n) old now → Offers (R x) now new → Offers (Among R xs (n + 1)) old new
  offers_more n x found old now new first second = offers_then (Among R xs n) (R x) (Among R xs (n + 1)) old now new first second (among_cases n x found)

  -- a loop's end, over a list that has each item that gives something
  pub offers_listed : (S : Pot → Type 0) (n : ℕ) → n ≡ length xs → ((p : Pot) → S p → (x : X) × Contains xs x × R x p) → (old new : Queued) → Offers (Among R xs n) old new → Offers S old new
  offers_listed S n whole back old new offers = offers_same (Among R xs n) S old new offers (λ p s. among p (back p s))
    where
      among : (p : Pot) → (x : X) × Contains xs x × R x p → Among R xs n p
      among p b =
          let at : (i : ℕ) × (i < length xs) × (slice_get xs i ≡ Some b.0) = at_contains xs b.0 b.1 in
          record { number = at.0; early = subst (λ m. at.0 < m) (sym whole) at.1; item = b.0; found = at.2; gives = b.2 }

-- what one step gives is one pot
module _ (steps : List MachineStep) (prev : Pot) (k : StepNo) (t : MachineStep) (found : slice_get steps k.0 ≡ Some t) where
  pub flat_is : (w : Weight) → w ≡ stepped prev.weight t → (p : Pot) → FlatBy steps prev k p → p ≡ pot prev.root t.to w
  flat_is w weighs p f =
      f.is ∙ ap (λ v. pot prev.root v.to (stepped prev.weight v)) (same_at steps k.0 f.step.step t f.step.found found) ∙ ap (λ v. pot prev.root t.to v) (sym weighs)

  pub opened_is : (w : Weight) → w ≡ zero → (p : Pot) → OpenedBy steps prev k p → p ≡ pot (Entry t.to) t.to w
  opened_is w weighs p f = f.is ∙ ap (λ v. pot (Entry v.to) v.to zero) (same_at steps k.0 f.push.step t f.push.found found) ∙ ap (λ v. pot (Entry t.to) t.to v) (sym weighs)

  pub nested_is : (inner : Pot) (l : StepNo) (u : MachineStep) → slice_get steps l.0 ≡ Some u → (w : Weight) → w ≡ stepped (capped_total (stepped prev.weight t) inner.weight) u
      → (p : Pot) → NestedBy steps prev k inner l p → p ≡ pot prev.root u.to w
  nested_is inner l u found_u w weighs p n =
      n.is
      ∙ ap (λ v. pot prev.root v.to (stepped (capped_total (stepped prev.weight n.meets.enters.push.step) inner.weight) v)) (same_at steps l.0 n.meets.pop.step u n.meets.pop.found found_u)
      ∙ ap (λ v. pot prev.root u.to (stepped (capped_total (stepped prev.weight v) inner.weight) u)) (same_at steps k.0 n.meets.enters.push.step t n.meets.enters.push.found found)
      ∙ ap (λ v. pot prev.root u.to v) (sym weighs)

-- what the rows of the index say of their steps
pub listed_step : (steps : List MachineStep) (n : ℕ) (test : MachineStep → Type 0) (list : List StepNo) → ListsSteps steps n test list → (i : ℕ) (k : StepNo) → slice_get list i ≡ Some k → IsStepOf steps test k
listed_step steps n test list lists i k at =
    let only : (k.0 < n) × ((t : MachineStep) × (slice_get steps k.0 ≡ Some t) × test t) = lists.only k (contains_at list i k at) in
    record { step = only.1.0; found = only.1.1; passes = only.1.2 }

pub step_listed : (steps : List MachineStep) (test : MachineStep → Type 0) (list : List StepNo) → ListsSteps steps (length steps) test list → (k : StepNo) (f : IsStepOf steps test k) → Contains list k
step_listed steps test list lists k f = lists.all k.0 f.step (slice_get-below steps k.0 f.step f.found) f.found f.passes

-- the pops of the pushed frame
module _ (steps : List MachineStep) (prev : Pot) (k : StepNo) (inner : Pot) (pushed : MachineStep) (found : slice_get steps k.0 ≡ Some pushed) where
  pub enters_here : IsStepOf steps (IsPushFrom prev.state) k → inner.root ≡ Entry pushed.to → Enters steps prev k inner
  enters_here f under = record { push = f; under = under ∙ ap (λ t. Entry t.to) (same_at steps k.0 pushed f.step found f.found) }

  pub under_here : Enters steps prev k inner → inner.root ≡ Entry pushed.to
  under_here e = e.under ∙ ap (λ t. Entry t.to) (same_at steps k.0 e.push.step pushed e.push.found found)

  pub fill_enters : (t : MachineStep) × (slice_get steps k.0 ≡ Some t) × (t.kind ≡ Push) × (inner.root ≡ Entry t.to) → prev.state ≡ pushed.from → Enters steps prev k inner
  fill_enters into from =
      let same : into.0 ≡ pushed = same_at steps k.0 into.0 pushed into.1 found in
      record { push = record { step = pushed; found = found; passes = (subst (λ t. t.kind ≡ Push) same into.2, sym from) }; under = into.3 ∙ ap (λ t. Entry t.to) same }

  pub from_here : Enters steps prev k inner → prev.state ≡ pushed.from
  from_here e = sym e.push.passes.1 ∙ ap (λ t. t.from) (same_at steps k.0 e.push.step pushed e.push.found found)

  module _ (list : List StepNo) (lists : ListsSteps steps (length steps) (IsPopAt inner.state pushed.frame) list) where
    pub meets_listed : Enters steps prev k inner → (i : ℕ) (l : StepNo) → slice_get list i ≡ Some l → Meets steps prev k inner l
    meets_listed e i l at = record {
      enters = e;
      pop = subst (λ t. IsStepOf steps (IsPopAt inner.state t.frame) l) (same_at steps k.0 pushed e.push.step found e.push.found) (listed_step steps (length steps) (IsPopAt inner.state pushed.frame) list lists i l at);
    }

    pub closes_listed : (p : Pot) → Closes steps prev k inner p → (x : StepNo) × Contains list x × NestedBy steps prev k inner x p
    closes_listed p s = (
      s.number,
      step_listed steps (IsPopAt inner.state pushed.frame) list lists s.number
          (subst (λ t. IsStepOf steps (IsPopAt inner.state t.frame) s.number) (same_at steps k.0 s.gives.meets.enters.push.step pushed s.gives.meets.enters.push.found found) s.gives.meets.pop),
      s.gives,
    )

pub pushed_step : (steps : List MachineStep) (table : List Pot) (prev : Pot) (k : StepNo) (p : Pot) → PushedBy steps table prev k p → IsStepOf steps (IsPushFrom prev.state) k
pushed_step steps table prev k p (inl o) = o.push
pushed_step steps table prev k p (inr s) = s.gives.gives.meets.enters.push

entry_same : (r : Root) (a b : StateNo) → r ≡ Entry a → r ≡ Entry b → a ≡ b
entry_same r a b p q = cc

pub into_here : (steps : List MachineStep) (k : StepNo) (r : Root) (e : StateNo) → r ≡ Entry e → IsStepOf steps (IsPushInto e) k → (t : MachineStep) × (slice_get steps k.0 ≡ Some t) × (t.kind ≡ Push) × (r ≡ Entry t.to)
into_here steps k r e root f = (f.step, f.found, f.passes.0, root ∙ ap (λ s. Entry s) (sym f.passes.1))

pub fills_listed : (steps : List MachineStep) (table : List Pot) (inner : Pot) (e : StateNo) → inner.root ≡ Entry e → (list : List StepNo) → ListsSteps steps (length steps) (IsPushInto e) list
    → (p : Pot) → Fills steps table inner p → (x : StepNo) × Contains list x × SomePot table (λ prev p. Closes steps prev x inner p) p
fills_listed steps table inner e root list lists p s =
    let enters : Enters steps s.gives.item s.number inner = s.gives.gives.gives.meets.enters in (
      s.number,
      step_listed steps (IsPushInto e) list lists s.number
          (record { step = enters.push.step; found = enters.push.found; passes = (enters.push.passes.0, entry_same inner.root enters.push.step.to e enters.under root) }),
      s.gives,
    )

-- what a step of a kind leaves
pub left_by : (task : Task) (steps : List MachineStep) (m : MachineValue) → task.machine ≡ m → m.steps ≡ steps → (kind : MachineKind) (x : StateNo) (number : ℕ) (t : MachineStep) → slice_get steps number ≡ Some t → t.kind ≡ kind → t.from ≡ x
    → IsLeftBy task.machine.steps kind x
left_by task steps m same are kind x number t found is_kind leaves =
    record { number = number; step = t; found = subst (λ l. slice_get l number ≡ Some t) (sym (ap (λ v. v.steps) same ∙ are)) found; is_kind = is_kind; leaves = leaves }

-- the pairs of a row
module _ (task : Task) (table : List Pot) (kind : MachineKind) (test : Pot → Type 0) (row : List Derived) (lists : ListsPairs task table kind test row) where
  pub kept_at : (i : ℕ) (d : Derived) → i < length row → (task' : Task) → task' ≡ task → IsKept task' (get_or row i d)
  kept_at i d l task' e = subst (λ t. IsKept t (get_or row i d)) (sym e) (lists.kept (get_or row i d) (Contains-get_or row i d l))

  pub passes_at : (i : ℕ) (d : Derived) → i < length row → test (pot_of (get_or row i d))
  passes_at i d l = lists.pass (get_or row i d) (Contains-get_or row i d l)

  pair_listed : (R : Pot → Pot → Type 0) (p : Pot) (s : SomePot table R p) → test s.item → IsLeftBy task.machine.steps kind s.item.state → (d : Derived) × Contains row d × R (pot_of d) p
  pair_listed R p s passes left =
      let has : HasPot row s.item = lists.all s.item s.listed passes left in
      (has.item, has.listed, subst (λ v. R v p) (sym has.is) s.gives)

-- the rows that a push asks for have what it gives something with
module _ (task : Task) (table : List Pot) (row : List Derived) (steps : List MachineStep) (same : task.machine.steps ≡ steps) (k : StepNo) (pushed : MachineStep) (found : slice_get steps k.0 ≡ Some pushed) where
  pub inners_listed : ListsPairs task table Pop (IsUnder pushed.to) row → (prev p : Pot) → SomePot table (λ inner p. Closes steps prev k inner p) p
      → (d : Derived) × Contains row d × Closes steps prev k (pot_of d) p
  inners_listed lists prev p s =
      let meets : Meets steps prev k s.item s.gives.number = s.gives.gives.meets in
      pair_listed task table Pop (IsUnder pushed.to) row lists (λ inner p. Closes steps prev k inner p) p s (under_here steps prev k s.item pushed found meets.enters)
      (left_by task steps task.machine refl same Pop s.item.state s.gives.number.0 meets.pop.step meets.pop.found meets.pop.passes.0 meets.pop.passes.1)

  pub waiting_listed : ListsPairs task table Push (IsAt pushed.from) row → (inner p : Pot) → SomePot table (λ prev p. Closes steps prev k inner p) p
      → (d : Derived) × Contains row d × Closes steps (pot_of d) k inner p
  waiting_listed lists inner p s =
      let push : IsStepOf steps (IsPushFrom s.item.state) k = s.gives.gives.meets.enters.push in
      pair_listed task table Push (IsAt pushed.from) row lists (λ prev p. Closes steps prev k inner p) p s (from_here steps s.item k inner pushed found s.gives.gives.meets.enters)
      (left_by task steps task.machine refl same Push s.item.state k.0 push.step push.found push.passes.0 push.passes.1)

-- Which steps a product has.
use Rattle.std.proofs.Common.{◌≡◌, ℕ, zero, suc, ◌+◌, ◌*◌, ◌<◌, List, [], ◌∷◌, length, refl, sym, ap, subst, inl, inr, arith, Some, None, Option, slice_get}
use Rattle.std.specs.List.{flat_map, range_with_len}
use Rattle.std.proofs.lemmas.Option.{slice_get_within}
use Rattle.std.proofs.lemmas.Grind.{common_steps}
use Rattle.ml_base.specs.Lists.{IsAmong}
use Rattle.ml_base.proofs.Lists.{among_left, among_right, among_cases}
use Rattle.ml_base.specs.declared.numbers.FrameNo.{FrameNo}
use Rattle.ml_base.specs.declared.numbers.StepNo.{StepNo}
use Rattle.adapt_machine.specs.declared.MachineStep.{MachineStep}
use Rattle.adapt_machine.specs.declared.MachineKind.{MachineKind}
use Rattle.adapt_machine.specs.declared.MachineKind.TheVariants.{Flat, Push, Pop}
use Rattle.marked_machine.specs.declared.marks.Marks.{Marks}
use Rattle.marked_machine.specs.Marks.{below, cell_by, next_mark, put_mark}
use Rattle.marked_machine.specs.Product.{MarkedStep, frame_at, lifted, marked_steps, no_frame, of_kind, pop_at, steps_at, steps_of, with_next, with_put}

-- Items of joined lists.

pub among_flat : {A B : Type 0} (f : A → List B) (xs : List A) (b : B) → IsAmong (flat_map f xs) b → (a : A) × IsAmong xs a × IsAmong (f a) b
among_flat f [] b is = absurd is
among_flat f (x ∷ xs) b is = elim (among_cases (f x) (flat_map f xs) b is) [
  | inl here ↦ (x, inl refl, here)
  | inr later ↦ (let rest = among_flat f xs b later in (rest.0, inr rest.1, rest.2))
]

pub flat_among : {A B : Type 0} (f : A → List B) (xs : List A) (a : A) (b : B) → IsAmong xs a → IsAmong (f a) b → IsAmong (flat_map f xs) b
flat_among f [] a b is has = absurd is
flat_among f (x ∷ xs) a b (inl e) has = among_left (f x) (flat_map f xs) b (subst (λ v. IsAmong (f v) b) e has)
flat_among f (x ∷ xs) a b (inr later) has = among_right (f x) (flat_map f xs) b (flat_among f xs a b later has)

among_span : (from n k : ℕ) → IsAmong (range_with_len from n) k → k < from + n
among_span from zero k is = absurd is
among_span from (suc n) k (inl e) = omega (arith, e)
among_span from (suc n) k (inr later) = omega (arith, among_span (from + 1) n k later)

span_among : (from n i k : ℕ) → i < n → k ≡ from + i → IsAmong (range_with_len from n) k
span_among from zero i k lt e = absurd (omega arith)
span_among from (suc n) zero k lt e = inl (omega (arith, e))
span_among from (suc n) (suc i) k lt e = inr (span_among (from + 1) n i k (omega (arith, lt)) (omega (arith, e)))

pub among_range : (n k : ℕ) → IsAmong (range_with_len 0 n) k → k < n
among_range n k is = omega (arith, among_span 0 n k is)

pub range_among : (n k : ℕ) → k < n → IsAmong (range_with_len 0 n) k
range_among n k lt = span_among 0 n k k lt (omega arith)

-- What a step of the product comes from.

-- the rule leads from mark `i` to mark `b` by step `k`, and the step of the product has the frame
abbrev pub Leads : MachineKind → Marks → StepNo → MachineStep → ℕ → ℕ → FrameNo → Type 0
Leads Flat marks k t i b f = (f ≡ no_frame) × (next_mark marks k.0 i 0 ≡ Some b)
Leads Push marks k t i b f = (j : ℕ) × (put_mark marks i ≡ Some j) × (f ≡ frame_at marks t.frame j) × (next_mark marks k.0 i 0 ≡ Some b)
Leads Pop marks k t i b f = (j : ℕ) × (j < marks.frame_count) × (f ≡ frame_at marks t.frame j) × (next_mark marks k.0 i j ≡ Some b)

pub record IsFrom (marks : Marks) (steps : List MachineStep) (a : MarkedStep) : Type 0 where
  pub base : MachineStep
  pub mark : ℕ
  pub after : ℕ
  pub frame : FrameNo
  pub found : slice_get steps a.base.0 ≡ Some base
  pub below : mark < marks.count
  pub leads : Leads base.kind marks a.base base mark after frame
  pub is : a.step ≡ lifted marks base frame mark after

abbrev marked : Marks → StepNo → MachineStep → FrameNo → ℕ → ℕ → MarkedStep
marked marks k t f i b = record { step = lifted marks t f i b; base = k }

-- with the mark behind a step

next_cases : (marks : Marks) (k : StepNo) (t : MachineStep) (i : ℕ) (f : FrameNo) (o : Option ℕ) (a : MarkedStep) → IsAmong (with_next marks k t i f o) a
    → (b : ℕ) × (o ≡ Some b) × (a ≡ marked marks k t f i b)
next_cases marks k t i f None a is = absurd is
next_cases marks k t i f (Some b) a (inl e) = (b, refl, e)
next_cases marks k t i f (Some b) a (inr later) = absurd later

next_among : (marks : Marks) (k : StepNo) (t : MachineStep) (i : ℕ) (f : FrameNo) (o : Option ℕ) (b : ℕ) → o ≡ Some b → IsAmong (with_next marks k t i f o) (marked marks k t f i b)
next_among marks k t i f o b e = subst (λ v. IsAmong (with_next marks k t i f v) (marked marks k t f i b)) (sym e) (inl refl)

put_cases : (marks : Marks) (k : StepNo) (t : MachineStep) (i : ℕ) (o : Option ℕ) (a : MarkedStep) → IsAmong (with_put marks k t i o) a
    → (j : ℕ) × (o ≡ Some j) × ((b : ℕ) × (next_mark marks k.0 i 0 ≡ Some b) × (a ≡ marked marks k t (frame_at marks t.frame j) i b))
put_cases marks k t i None a is = absurd is
put_cases marks k t i (Some j) a is = (j, refl, next_cases marks k t i (frame_at marks t.frame j) (next_mark marks k.0 i 0) a is)

-- at a mark

record Made (marks : Marks) (kind : MachineKind) (k : StepNo) (t : MachineStep) (i : ℕ) (a : MarkedStep) : Type 0 where
  after : ℕ
  frame : FrameNo
  leads : Leads kind marks k t i after frame
  is : a ≡ marked marks k t frame i after

kind_cases : (marks : Marks) (kind : MachineKind) (k : StepNo) (t : MachineStep) (i : ℕ) (a : MarkedStep) → IsAmong (of_kind kind marks k t i) a → Made marks kind k t i a
kind_cases marks Flat k t i a is =
    let c = next_cases marks k t i no_frame (next_mark marks k.0 i 0) a is in
    record { after = c.0; frame = no_frame; leads = (refl, c.1); is = c.2 }
kind_cases marks Push k t i a is =
    let c = put_cases marks k t i (put_mark marks i) a is in
    record { after = c.2.0; frame = frame_at marks t.frame c.0; leads = (c.0, c.1, refl, c.2.1); is = c.2.2 }
kind_cases marks Pop k t i a is =
    let j = among_flat (pop_at marks k t i) (range_with_len 0 marks.frame_count) a is in
    let c = next_cases marks k t i (frame_at marks t.frame j.0) (next_mark marks k.0 i j.0) a j.2 in
    record { after = c.0; frame = frame_at marks t.frame j.0; leads = (j.0, among_range marks.frame_count j.0 j.1, refl, c.1); is = c.2 }

kind_among : (marks : Marks) (kind : MachineKind) (k : StepNo) (t : MachineStep) (i b : ℕ) (f : FrameNo) → Leads kind marks k t i b f → IsAmong (of_kind kind marks k t i) (marked marks k t f i b)
kind_among marks Flat k t i b f leads = subst (λ v. IsAmong (of_kind Flat marks k t i) (marked marks k t v i b)) (sym leads.0) (next_among marks k t i no_frame (next_mark marks k.0 i 0) b leads.1)
kind_among marks Push k t i b f leads = subst (λ v. IsAmong (of_kind Push marks k t i) (marked marks k t v i b)) (sym leads.2)
    (subst (λ v. IsAmong (with_put marks k t i v) (marked marks k t (frame_at marks t.frame leads.0) i b)) (sym leads.1)
    (next_among marks k t i (frame_at marks t.frame leads.0) (next_mark marks k.0 i 0) b leads.3))
kind_among marks Pop k t i b f leads = subst (λ v. IsAmong (of_kind Pop marks k t i) (marked marks k t v i b)) (sym leads.2)
    (flat_among (pop_at marks k t i) (range_with_len 0 marks.frame_count) leads.0 (marked marks k t (frame_at marks t.frame leads.0) i b) (range_among marks.frame_count leads.0 leads.1)
    (next_among marks k t i (frame_at marks t.frame leads.0) (next_mark marks k.0 i leads.0) b leads.3))

-- of a step, and of all

step_cases : (marks : Marks) (steps : List MachineStep) (k : ℕ) (o : Option MachineStep) (a : MarkedStep) → slice_get steps k ≡ o → IsAmong (steps_of marks k o) a → IsFrom marks steps a
step_cases marks steps k None a at is = absurd is
step_cases marks steps k (Some t) a at is =
    let n : StepNo = record { 0 = k } in
    let i = among_flat (steps_at marks n t) (range_with_len 0 marks.count) a is in
    let made : Made marks t.kind n t i.0 a = kind_cases marks t.kind n t i.0 a i.2 in
    let same : n ≡ a.base = sym (ap (λ v. v.base) made.is) in
    record {
      base = t;
      mark = i.0;
      after = made.after;
      frame = made.frame;
      found = subst (λ v. slice_get steps v.0 ≡ Some t) same at;
      below = among_range marks.count i.0 i.1;
      leads = subst (λ v. Leads t.kind marks v t i.0 made.after made.frame) same made.leads;
      is = ap (λ v. v.step) made.is;
    }

-- each step of the product comes from one of the machine
pub steps_from : (marks : Marks) (steps : List MachineStep) (a : MarkedStep) → IsAmong (marked_steps marks steps) a → IsFrom marks steps a
steps_from marks steps a is =
    let k = among_flat (λ k. steps_of marks k (slice_get steps k)) (range_with_len 0 (length steps)) a is in
    step_cases marks steps k.0 (slice_get steps k.0) a refl k.2

-- and each that the rule allows is there
pub steps_among : (marks : Marks) (steps : List MachineStep) (k : ℕ) (t : MachineStep) (i b : ℕ) (f : FrameNo) → slice_get steps k ≡ Some t → i < marks.count
    → Leads t.kind marks (record { 0 = k }) t i b f → IsAmong (marked_steps marks steps) (record { step = lifted marks t f i b; base = record { 0 = k } })
steps_among marks steps k t i b f at lt leads =
    let n : StepNo = record { 0 = k } in
    flat_among (λ v. steps_of marks v (slice_get steps v)) (range_with_len 0 (length steps)) k (marked marks n t f i b) (range_among (length steps) k (slice_get_within steps k t at))
    (subst (λ v. IsAmong (steps_of marks k v) (marked marks n t f i b)) (sym at)
    (flat_among (steps_at marks n t) (range_with_len 0 marks.count) i (marked marks n t f i b) (range_among marks.count i lt) (kind_among marks t.kind n t i b f leads)))

-- marks behind steps are marks

below_count : (count : ℕ) (o : Option ℕ) (a : ℕ) → below count o ≡ Some a → a < count
below_count count None a e = absurd cc
below_count count (Some b) a e = grind (arith, common_steps)

pub next_below : (marks : Marks) (k i j a : ℕ) → next_mark marks k i j ≡ Some a → a < marks.count
next_below marks k i j a e = below_count marks.count (cell_by marks (slice_get marks.classes.items k) (j * marks.count + i)) a e

pub put_below : (marks : Marks) (i a : ℕ) → put_mark marks i ≡ Some a → a < marks.frame_count
put_below marks i a e = below_count marks.frame_count (slice_get marks.puts.items i) a e

pub leads_below : (marks : Marks) (kind : MachineKind) (k : StepNo) (t : MachineStep) (i b : ℕ) (f : FrameNo) → Leads kind marks k t i b f → b < marks.count
leads_below marks Flat k t i b f leads = next_below marks k.0 i 0 b leads.1
leads_below marks Push k t i b f leads = next_below marks k.0 i 0 b leads.3
leads_below marks Pop k t i b f leads = next_below marks k.0 i leads.0 b leads.3

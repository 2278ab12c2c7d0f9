-- Runs of a product and marked runs of its machine, step by step.
use Rattle.std.proofs.Common.{◌≡◌, ℕ, suc, ◌/◌, ◌%◌, ◌<◌, List, [], ◌∷◌, length, map, refl, sym, ◌∙◌, ap, subst, inl, inr, arith, Some, slice_get, option_map}
use Rattle.std.proofs.lemmas.Nat.{div-mul-add, mod-mul-add}
use Rattle.std.proofs.lemmas.Option.{slice_get-map, get_or_from_slice_get}
use Rattle.ml_base.proofs.Lists.{among_place, mapped_some, one_of_some, place_among}
use Rattle.ml_base.specs.declared.numbers.StateNo.{StateNo}
use Rattle.ml_base.specs.declared.numbers.FrameNo.{FrameNo}
use Rattle.ml_base.specs.declared.numbers.StepNo.{StepNo}
use Rattle.walk_grammar.specs.System.{Goes, Run, cost_of}
use Rattle.adapt_machine.specs.Machine.{MachineValue}
use Rattle.adapt_machine.specs.Walks.{IsStep, cost_found, system_of, full_weight_of}
use Rattle.adapt_machine.specs.declared.MachineStep.{MachineStep}
use Rattle.adapt_machine.specs.declared.MachineKind.{MachineKind}
use Rattle.adapt_machine.specs.declared.MachineKind.TheVariants.{Flat, Push, Pop}
use Rattle.marked_machine.specs.declared.marks.Marks.{Marks}
use Rattle.marked_machine.specs.Marks.{next_mark, put_mark}
use Rattle.marked_machine.specs.MarkedRuns.{AreIn, AreMarked, base_of, marking}
use Rattle.marked_machine.specs.Product.{IsProduct, MarkedStep, ProductValue, frame_at, lifted, marked_steps, no_frame, place_of, state_at}
use Rattle.marked_machine.proofs.Among.{IsFrom, Leads, leads_below, next_below, put_below, steps_among, steps_from}

-- Numbers tell their parts.

place_base : (count base mark : ℕ) → mark < count → place_of count base mark / count ≡ base
place_base count base mark lt = div-mul-add base count mark lt

place_mark : (count base mark : ℕ) → mark < count → place_of count base mark % count ≡ mark
place_mark count base mark lt = mod-mul-add base count mark lt

place_apart : (count b i c j : ℕ) → i < count → j < count → place_of count b i ≡ place_of count c j → (b ≡ c) × (i ≡ j)
place_apart count b i c j p q e = (
  sym (place_base count b i p) ∙ (ap (λ v. v / count) e ∙ place_base count c j q),
  sym (place_mark count b i p) ∙ (ap (λ v. v % count) e ∙ place_mark count c j q),
)

abbrev state_no : ℕ → StateNo
state_no n = record { 0 = n }

abbrev frame_no : ℕ → FrameNo
frame_no n = record { 0 = n }

state_apart : (marks : Marks) (x : StateNo) (i : ℕ) (y : StateNo) (j : ℕ) → i < marks.count → j < marks.count → state_at marks x i ≡ state_at marks y j → (x ≡ y) × (i ≡ j)
state_apart marks x i y j p q e =
    let apart = place_apart marks.count x.0 i y.0 j p q (ap (λ v. v.0) e) in
    (ap state_no apart.0, apart.1)

frame_apart : (marks : Marks) (f : FrameNo) (i : ℕ) (g : FrameNo) (j : ℕ) → i < marks.frame_count → j < marks.frame_count → frame_at marks f i ≡ frame_at marks g j → (f ≡ g) × (i ≡ j)
frame_apart marks f i g j p q e =
    let apart = place_apart marks.frame_count f.0 i g.0 j p q (ap (λ v. v.0) e) in
    (ap frame_no apart.0, apart.1)

cons_apart : {A : Type 0} (x y : A) (xs ys : List A) → x ∷ xs ≡ y ∷ ys → (x ≡ y) × (xs ≡ ys)
cons_apart x y xs ys e = (cc, cc)

not_cons : {A : Type 0} (y : A) (ys : List A) → [] ≡ y ∷ ys → ⊥
not_cons y ys e = cc

found_map : {A B : Type 0} (f : A → B) (xs : List A) (k : ℕ) (x : A) → slice_get xs k ≡ Some x → slice_get (map f xs) k ≡ Some (f x)
found_map f xs k x e = slice_get-map f xs k ∙ ap (option_map f) e

-- a frame of the product, by its parts
pub record Both (count : ℕ) : Type 0 where
  pub frame : FrameNo
  pub mark : ℕ
  pub below : mark < count

abbrev frames_of : {n : ℕ} → List (Both n) → List FrameNo
frames_of both = map (λ b. b.frame) both

abbrev marks_in : {n : ℕ} → List (Both n) → List ℕ
marks_in both = map (λ b. b.mark) both

module _ (m : MachineValue) (marks : Marks) where
  abbrev all : List MarkedStep
  all = marked_steps marks m.steps

  abbrev pub steps : List MachineStep
  steps = map (λ a. a.step) all

  abbrev pub bases : List StepNo
  bases = map (λ a. a.base) all

  abbrev Entry : Type 0
  Entry = Both marks.frame_count

  abbrev joint : Entry → FrameNo
  joint b = frame_at marks b.frame b.mark

  base_found : (q : ℕ) (a : MarkedStep) → slice_get all q ≡ Some a → base_of bases q ≡ a.base.0
  base_found q a e = ap (λ v. v.0) (get_or_from_slice_get bases q a.base (record { 0 = 0 }) (found_map (λ v. v.base) all q a e))

  -- From the product to the machine.

  record Comes (q : ℕ) (x : StateNo) (i : ℕ) (u : MachineStep) : Type 0 where
    base : MachineStep
    after : ℕ
    frame : FrameNo
    found : slice_get m.steps (base_of bases q) ≡ Some base
    leaves : base.from ≡ x
    leads : Leads base.kind marks (record { 0 = base_of bases q }) base i after frame
    below : after < marks.count
    is_kind : base.kind ≡ u.kind
    enters : state_at marks base.to after ≡ u.to
    is_frame : frame ≡ u.frame
    cost : u.cost ≡ base.cost

  comes : (q : ℕ) (x : StateNo) (i : ℕ) (u : MachineStep) → i < marks.count → slice_get steps q ≡ Some u → u.from ≡ state_at marks x i → Comes q x i u
  comes q x i u lt found leaves =
      let a = mapped_some (λ (v : MarkedStep). v.step) (slice_get all q) u (sym (slice_get-map (λ (v : MarkedStep). v.step) all q) ∙ found) in
      let from : IsFrom marks m.steps a.0 = steps_from marks m.steps a.0 (among_place all q a.0 a.1) in
      let same : lifted marks from.base from.frame from.mark from.after ≡ u = sym from.is ∙ a.2 in
      let apart = state_apart marks from.base.from from.mark x i from.below lt (ap (λ v. v.from) same ∙ leaves) in
      let number : a.0.base.0 ≡ base_of bases q = sym (base_found q a.0 a.1) in
      record {
        base = from.base;
        after = from.after;
        frame = from.frame;
        found = subst (λ n. slice_get m.steps n ≡ Some from.base) number from.found;
        leaves = apart.0;
        leads = subst (λ n. Leads from.base.kind marks (record { 0 = n }) from.base i from.after from.frame) number
            (subst (λ n. Leads from.base.kind marks a.0.base from.base n from.after from.frame) apart.1 from.leads);
        below = leads_below marks from.base.kind a.0.base from.base from.mark from.after from.frame from.leads;
        is_kind = ap (λ v. v.kind) same;
        enters = ap (λ v. v.to) same;
        is_frame = ap (λ v. v.frame) same;
        cost = sym (ap (λ v. v.cost) same);
      }

  record WentDown (x : StateNo) (i : ℕ) (both : List Entry) (q : ℕ) (y : StateNo) (u : List FrameNo) : Type 0 where
    to : StateNo
    after : ℕ
    left : List Entry
    is_to : y ≡ state_at marks to after
    is_left : u ≡ map joint left
    below : after < marks.count
    goes : Goes (system_of m.steps) x (frames_of both) (base_of bases q) to (frames_of left)
    is_marked : Goes (marking marks m.steps) i (marks_in both) (base_of bases q) after (marks_in left)
    cost : cost_found (slice_get steps q) ≡ cost_found (slice_get m.steps (base_of bases q))

  leads_by : (q : ℕ) (x : StateNo) (i : ℕ) (u : MachineStep) (kind : MachineKind) (c : Comes q x i u) → u.kind ≡ kind → Leads kind marks (record { 0 = base_of bases q }) c.base i c.after c.frame
  leads_by q x i u kind c e = subst (λ v. Leads v marks (record { 0 = base_of bases q }) c.base i c.after c.frame) (c.is_kind ∙ e) c.leads

  step_by : (q : ℕ) (x : StateNo) (i : ℕ) (u : MachineStep) (kind : MachineKind) (c : Comes q x i u) → u.kind ≡ kind → IsStep m.steps kind x (base_of bases q) c.base c.base.to
  step_by q x i u kind c e = record { found = c.found; is_kind = c.is_kind ∙ e; leaves = c.leaves; enters = refl }

  cost_by : (q : ℕ) (x : StateNo) (i : ℕ) (u : MachineStep) (c : Comes q x i u) → slice_get steps q ≡ Some u → cost_found (slice_get steps q) ≡ cost_found (slice_get m.steps (base_of bases q))
  cost_by q x i u c found = ap cost_found found ∙ (c.cost ∙ sym (ap cost_found c.found))

  down_flat : (x : StateNo) (i : ℕ) (both : List Entry) (q : ℕ) (y : StateNo) (u : MachineStep) → i < marks.count → IsStep steps Flat (state_at marks x i) q u y → WentDown x i both q y (map joint both)
  down_flat x i both q y u lt is =
      let c = comes q x i u lt is.found is.leaves in
      let leads = leads_by q x i u Flat c is.is_kind in
      let step = step_by q x i u Flat c is.is_kind in
      record {
        to = c.base.to;
        after = c.after;
        left = both;
        is_to = sym (c.enters ∙ is.enters);
        is_left = refl;
        below = c.below;
        goes = inl ((c.base, step), refl);
        is_marked = inl (((c.base, c.found, step.is_kind), leads.1), refl);
        cost = cost_by q x i u c is.found;
      }

  down_push : (x : StateNo) (i : ℕ) (both : List Entry) (q : ℕ) (f : FrameNo) (y : StateNo) (u : MachineStep) → i < marks.count → IsStep steps Push (state_at marks x i) q u y → u.frame ≡ f
      → WentDown x i both q y (f ∷ map joint both)
  down_push x i both q f y u lt is frame =
      let c = comes q x i u lt is.found is.leaves in
      let leads = leads_by q x i u Push c is.is_kind in
      let step = step_by q x i u Push c is.is_kind in
      let top : Entry = record { frame = c.base.frame; mark = leads.0; below = put_below marks i leads.0 leads.1 } in
      record {
        to = c.base.to;
        after = c.after;
        left = top ∷ both;
        is_to = sym (c.enters ∙ is.enters);
        is_left = ap (λ v. v ∷ map joint both) (sym (sym leads.2 ∙ (c.is_frame ∙ frame)));
        below = c.below;
        goes = inr (inl (c.base.frame, (c.base, step, refl), refl));
        is_marked = inr (inl (leads.0, ((c.base, c.found, step.is_kind), leads.1, leads.3), refl));
        cost = cost_by q x i u c is.found;
      }

  down_pop : (x : StateNo) (i : ℕ) (top : Entry) (both : List Entry) (q : ℕ) (f : FrameNo) (y : StateNo) (u : MachineStep) → i < marks.count → IsStep steps Pop (state_at marks x i) q u y → u.frame ≡ f
      → joint top ≡ f → WentDown x i (top ∷ both) q y (map joint both)
  down_pop x i top both q f y u lt is frame same =
      let c = comes q x i u lt is.found is.leaves in
      let leads = leads_by q x i u Pop c is.is_kind in
      let step = step_by q x i u Pop c is.is_kind in
      let apart = frame_apart marks c.base.frame leads.0 top.frame top.mark leads.1 top.below (sym leads.2 ∙ (c.is_frame ∙ (frame ∙ sym same))) in
      record {
        to = c.base.to;
        after = c.after;
        left = both;
        is_to = sym (c.enters ∙ is.enters);
        is_left = refl;
        below = c.below;
        goes = inr (inr (top.frame, (c.base, step, apart.0), refl));
        is_marked = inr (inr (top.mark, ((c.base, c.found, step.is_kind), top.below, subst (λ n. next_mark marks (base_of bases q) i n ≡ Some c.after) apart.1 leads.3), refl));
        cost = cost_by q x i u c is.found;
      }

  down_popped : (x : StateNo) (i : ℕ) (both : List Entry) (q : ℕ) (f : FrameNo) (y : StateNo) (u : MachineStep) (left : List FrameNo) → i < marks.count → IsStep steps Pop (state_at marks x i) q u y
      → u.frame ≡ f → map joint both ≡ f ∷ left → WentDown x i both q y left
  down_popped x i [] q f y u left lt is frame e = absurd (not_cons f left e)
  down_popped x i (top ∷ both) q f y u left lt is frame e =
      let apart = cons_apart (joint top) f (map joint both) left e in
      subst (λ v. WentDown x i (top ∷ both) q y v) apart.1 (down_pop x i top both q f y u lt is frame apart.0)

  down_step : (x : StateNo) (i : ℕ) (both : List Entry) (q : ℕ) (y : StateNo) (u : List FrameNo) → i < marks.count → Goes (system_of steps) (state_at marks x i) (map joint both) q y u → WentDown x i both q y u
  down_step x i both q y u lt (inl a) = subst (λ v. WentDown x i both q y v) (sym a.1) (down_flat x i both q y a.0.0 lt a.0.1)
  down_step x i both q y u lt (inr (inl b)) = subst (λ v. WentDown x i both q y v) (sym b.2) (down_push x i both q b.0 y b.1.0 lt b.1.1 b.1.2)
  down_step x i both q y u lt (inr (inr d)) = down_popped x i both q d.0 y d.1.0 u lt d.1.1 d.1.2 d.2

  record RanDown (x : StateNo) (i : ℕ) (both : List Entry) (qs : List ℕ) (y : StateNo) (u : List FrameNo) : Type 0 where
    to : StateNo
    after : ℕ
    left : List Entry
    is_to : y ≡ state_at marks to after
    is_left : u ≡ map joint left
    below : after < marks.count
    run : Run (system_of m.steps) x (frames_of both) (map (base_of bases) qs) to (frames_of left)
    is_marked : Run (marking marks m.steps) i (marks_in both) (map (base_of bases) qs) after (marks_in left)
    cost : cost_of (system_of steps) qs ≡ cost_of (system_of m.steps) (map (base_of bases) qs)
    hops : length qs ≡ length (map (base_of bases) qs)

  run_down : (qs : List ℕ) (x : StateNo) (i : ℕ) (both : List Entry) (y : StateNo) (u : List FrameNo) → i < marks.count → Run (system_of steps) (state_at marks x i) (map joint both) qs y u → RanDown x i both qs y u
  run_down [] x i both y u lt run = record {
    to = x;
    after = i;
    left = both;
    is_to = sym run.0;
    is_left = sym run.1;
    below = lt;
    run = (refl, refl);
    is_marked = (refl, refl);
    cost = refl;
    hops = refl;
  }
  run_down (q ∷ qs) x i both y u lt run =
      let w = down_step x i both q run.0 run.1 lt run.2 in
      let rest = run_down qs w.to w.after w.left y u w.below (subst (λ z. Run (system_of steps) z (map joint w.left) qs y u) w.is_to (subst (λ v. Run (system_of steps) run.0 v qs y u) w.is_left run.3)) in
      record {
        to = rest.to;
        after = rest.after;
        left = rest.left;
        is_to = rest.is_to;
        is_left = rest.is_left;
        below = rest.below;
        run = (w.to, frames_of w.left, w.goes, rest.run);
        is_marked = (w.after, marks_in w.left, w.is_marked, rest.is_marked);
        cost = omega (arith, w.cost, rest.cost);
        hops = ap suc rest.hops;
      }

  -- From the machine to the product.

  record Lifts (k : ℕ) (t : MachineStep) (i b : ℕ) (f : FrameNo) : Type 0 where
    number : ℕ
    found : slice_get steps number ≡ Some (lifted marks t f i b)
    is_base : base_of bases number ≡ k

  lifts : (k : ℕ) (t : MachineStep) (i b : ℕ) (f : FrameNo) → slice_get m.steps k ≡ Some t → i < marks.count → Leads t.kind marks (record { 0 = k }) t i b f → Lifts k t i b f
  lifts k t i b f at lt leads =
      let a : MarkedStep = record { step = lifted marks t f i b; base = record { 0 = k } } in
      let place = place_among all a (steps_among marks m.steps k t i b f at lt leads) in
      record { number = place.0; found = found_map (λ v. v.step) all place.0 a place.1; is_base = base_found place.0 a place.1 }

  record WentUp (x : StateNo) (i : ℕ) (both : List Entry) (k : ℕ) (y : StateNo) (u : List FrameNo) (b : ℕ) (js : List ℕ) : Type 0 where
    number : ℕ
    left : List Entry
    below : b < marks.count
    is_frames : u ≡ frames_of left
    is_marks : js ≡ marks_in left
    goes : Goes (system_of steps) (state_at marks x i) (map joint both) number (state_at marks y b) (map joint left)
    is_base : base_of bases number ≡ k
    cost : cost_found (slice_get steps number) ≡ cost_found (slice_get m.steps k)

  by_kind : (kind : MachineKind) (k : ℕ) (t : MachineStep) (i b : ℕ) (f : FrameNo) → t.kind ≡ kind → Leads kind marks (record { 0 = k }) t i b f → Leads t.kind marks (record { 0 = k }) t i b f
  by_kind kind k t i b f e leads = subst (λ v. Leads v marks (record { 0 = k }) t i b f) (sym e) leads

  lifted_step : (kind : MachineKind) (x : StateNo) (k : ℕ) (t : MachineStep) (y : StateNo) (i b : ℕ) (f : FrameNo) (l : Lifts k t i b f) → IsStep m.steps kind x k t y
      → IsStep steps kind (state_at marks x i) l.number (lifted marks t f i b) (state_at marks y b)
  lifted_step kind x k t y i b f l is = record {
    found = l.found;
    is_kind = is.is_kind;
    leaves = ap (λ v. state_at marks v i) is.leaves;
    enters = ap (λ v. state_at marks v b) is.enters;
  }

  lifted_cost : (k : ℕ) (t : MachineStep) (i b : ℕ) (f : FrameNo) (l : Lifts k t i b f) → slice_get m.steps k ≡ Some t → cost_found (slice_get steps l.number) ≡ cost_found (slice_get m.steps k)
  lifted_cost k t i b f l at = ap cost_found l.found ∙ sym (ap cost_found at)

  up_flat : (x : StateNo) (i : ℕ) (both : List Entry) (k : ℕ) (y : StateNo) (b : ℕ) (t : MachineStep) → i < marks.count → IsStep m.steps Flat x k t y → next_mark marks k i 0 ≡ Some b
      → WentUp x i both k y (frames_of both) b (marks_in both)
  up_flat x i both k y b t lt is next =
      let l = lifts k t i b no_frame is.found lt (by_kind Flat k t i b no_frame is.is_kind (refl, next)) in
      record {
        number = l.number;
        left = both;
        below = next_below marks k i 0 b next;
        is_frames = refl;
        is_marks = refl;
        goes = inl ((lifted marks t no_frame i b, lifted_step Flat x k t y i b no_frame l is), refl);
        is_base = l.is_base;
        cost = lifted_cost k t i b no_frame l is.found;
      }

  up_push : (x : StateNo) (i : ℕ) (both : List Entry) (k : ℕ) (y : StateNo) (b : ℕ) (t : MachineStep) (f : FrameNo) (j : ℕ) → i < marks.count → IsStep m.steps Push x k t y → t.frame ≡ f
      → put_mark marks i ≡ Some j → next_mark marks k i 0 ≡ Some b → WentUp x i both k y (f ∷ frames_of both) b (j ∷ marks_in both)
  up_push x i both k y b t f j lt is frame put next =
      let g : FrameNo = frame_at marks t.frame j in
      let l = lifts k t i b g is.found lt (by_kind Push k t i b g is.is_kind (j, put, refl, next)) in
      let top : Entry = record { frame = f; mark = j; below = put_below marks i j put } in
      record {
        number = l.number;
        left = top ∷ both;
        below = next_below marks k i 0 b next;
        is_frames = refl;
        is_marks = refl;
        goes = inr (inl (frame_at marks f j, (lifted marks t g i b, lifted_step Push x k t y i b g l is, ap (λ v. frame_at marks v j) frame), refl));
        is_base = l.is_base;
        cost = lifted_cost k t i b g l is.found;
      }

  up_pop : (x : StateNo) (i : ℕ) (top : Entry) (both : List Entry) (k : ℕ) (y : StateNo) (b : ℕ) (t : MachineStep) → i < marks.count → IsStep m.steps Pop x k t y → t.frame ≡ top.frame
      → next_mark marks k i top.mark ≡ Some b → WentUp x i (top ∷ both) k y (frames_of both) b (marks_in both)
  up_pop x i top both k y b t lt is frame next =
      let g : FrameNo = frame_at marks t.frame top.mark in
      let l = lifts k t i b g is.found lt (by_kind Pop k t i b g is.is_kind (top.mark, top.below, refl, next)) in
      record {
        number = l.number;
        left = both;
        below = next_below marks k i top.mark b next;
        is_frames = refl;
        is_marks = refl;
        goes = inr (inr (joint top, (lifted marks t g i b, lifted_step Pop x k t y i b g l is, ap (λ v. frame_at marks v top.mark) frame), refl));
        is_base = l.is_base;
        cost = lifted_cost k t i b g l is.found;
      }

  up_popped : (x : StateNo) (i : ℕ) (both : List Entry) (k : ℕ) (y : StateNo) (b : ℕ) (t : MachineStep) (f : FrameNo) (j : ℕ) (u : List FrameNo) (js : List ℕ) → i < marks.count → IsStep m.steps Pop x k t y
      → t.frame ≡ f → next_mark marks k i j ≡ Some b → frames_of both ≡ f ∷ u → marks_in both ≡ j ∷ js → WentUp x i both k y u b js
  up_popped x i [] k y b t f j u js lt is frame next e d = absurd (not_cons f u e)
  up_popped x i (top ∷ both) k y b t f j u js lt is frame next e d =
      let frames = cons_apart top.frame f (frames_of both) u e in
      let seen = cons_apart top.mark j (marks_in both) js d in
      subst (λ v. WentUp x i (top ∷ both) k y v b js) frames.1
      (subst (λ v. WentUp x i (top ∷ both) k y (frames_of both) b v) seen.1
      (up_pop x i top both k y b t lt is (frame ∙ sym frames.0) (subst (λ n. next_mark marks k i n ≡ Some b) (sym seen.0) next)))

  -- a step has one kind
  one_kind : (k : ℕ) (t v : MachineStep) (a b : MachineKind) → slice_get m.steps k ≡ Some t → t.kind ≡ a → slice_get m.steps k ≡ Some v → v.kind ≡ b → a ≡ b
  one_kind k t v a b p q r s = sym q ∙ (ap (λ w. w.kind) (one_of_some (sym p ∙ r)) ∙ s)

  up_step : (x : StateNo) (i : ℕ) (both : List Entry) (k : ℕ) (y : StateNo) (u : List FrameNo) (b : ℕ) (js : List ℕ) → i < marks.count → Goes (system_of m.steps) x (frames_of both) k y u
      → Goes (marking marks m.steps) i (marks_in both) k b js → WentUp x i both k y u b js
  up_step x i both k y u b js lt (inl p) (inl a) =
      subst (λ v. WentUp x i both k y v b js) (sym p.1) (subst (λ v. WentUp x i both k y (frames_of both) b v) (sym a.1) (up_flat x i both k y b p.0.0 lt p.0.1 a.0.1))
  up_step x i both k y u b js lt (inl p) (inr (inl a)) = let e : Flat ≡ Push = one_kind k p.0.0 a.1.0.0 Flat Push p.0.1.found p.0.1.is_kind a.1.0.1 a.1.0.2 in absurd cc
  up_step x i both k y u b js lt (inl p) (inr (inr a)) = let e : Flat ≡ Pop = one_kind k p.0.0 a.1.0.0 Flat Pop p.0.1.found p.0.1.is_kind a.1.0.1 a.1.0.2 in absurd cc
  up_step x i both k y u b js lt (inr (inl p)) (inl a) = let e : Push ≡ Flat = one_kind k p.1.0 a.0.0.0 Push Flat p.1.1.found p.1.1.is_kind a.0.0.1 a.0.0.2 in absurd cc
  up_step x i both k y u b js lt (inr (inl p)) (inr (inl a)) =
      subst (λ v. WentUp x i both k y v b js) (sym p.2)
      (subst (λ v. WentUp x i both k y (p.0 ∷ frames_of both) b v) (sym a.2) (up_push x i both k y b p.1.0 p.0 a.0 lt p.1.1 p.1.2 a.1.1 a.1.2))
  up_step x i both k y u b js lt (inr (inl p)) (inr (inr a)) = let e : Push ≡ Pop = one_kind k p.1.0 a.1.0.0 Push Pop p.1.1.found p.1.1.is_kind a.1.0.1 a.1.0.2 in absurd cc
  up_step x i both k y u b js lt (inr (inr p)) (inl a) = let e : Pop ≡ Flat = one_kind k p.1.0 a.0.0.0 Pop Flat p.1.1.found p.1.1.is_kind a.0.0.1 a.0.0.2 in absurd cc
  up_step x i both k y u b js lt (inr (inr p)) (inr (inl a)) = let e : Pop ≡ Push = one_kind k p.1.0 a.1.0.0 Pop Push p.1.1.found p.1.1.is_kind a.1.0.1 a.1.0.2 in absurd cc
  up_step x i both k y u b js lt (inr (inr p)) (inr (inr a)) = up_popped x i both k y b p.1.0 p.0 a.0 u js lt p.1.1 p.1.2 a.1.2 p.2 a.2

  record RanUp (x : StateNo) (i : ℕ) (both : List Entry) (ks : List ℕ) (y : StateNo) (u : List FrameNo) (b : ℕ) (js : List ℕ) : Type 0 where
    numbers : List ℕ
    left : List Entry
    is_frames : u ≡ frames_of left
    run : Run (system_of steps) (state_at marks x i) (map joint both) numbers (state_at marks y b) (map joint left)
    are_bases : map (base_of bases) numbers ≡ ks
    cost : cost_of (system_of steps) numbers ≡ cost_of (system_of m.steps) ks

  run_up : (ks : List ℕ) (x : StateNo) (i : ℕ) (both : List Entry) (y : StateNo) (u : List FrameNo) (b : ℕ) (js : List ℕ) → i < marks.count → Run (system_of m.steps) x (frames_of both) ks y u
      → Run (marking marks m.steps) i (marks_in both) ks b js → RanUp x i both ks y u b js
  run_up [] x i both y u b js lt run marked = record {
    numbers = [];
    left = both;
    is_frames = sym run.1;
    run = (ap (λ v. state_at marks v i) run.0 ∙ ap (λ n. state_at marks y n) marked.0, refl);
    are_bases = refl;
    cost = refl;
  }
  run_up (k ∷ ks) x i both y u b js lt run marked =
      let w = up_step x i both k run.0 run.1 marked.0 marked.1 lt run.2 marked.2 in
      let rest = run_up ks run.0 marked.0 w.left y u b js w.below (subst (λ v. Run (system_of m.steps) run.0 v ks y u) w.is_frames run.3)
      (subst (λ v. Run (marking marks m.steps) marked.0 v ks b js) w.is_marks marked.3) in
      record {
        numbers = w.number ∷ rest.numbers;
        left = rest.left;
        is_frames = rest.is_frames;
        run = (state_at marks run.0 marked.0, map joint w.left, w.goes, rest.run);
        are_bases = ap (λ n. n ∷ map (base_of bases) rest.numbers) w.is_base ∙ ap (λ v. k ∷ v) rest.are_bases;
        cost = omega (arith, w.cost, rest.cost);
      }

  -- Both, with the empty stack at both ends.

  no_frames : {A : Type 0} (left : List Entry) (f : Entry → A) → [] ≡ map f left → left ≡ []
  no_frames [] f e = refl
  no_frames (b ∷ left) f e = absurd (not_cons (f b) (map f left) e)

  weight_same : (ps ks : List ℕ) → cost_of (system_of steps) ps ≡ cost_of (system_of m.steps) ks → length ps ≡ length ks → full_weight_of steps ps ≡ full_weight_of m.steps ks
  weight_same ps ks cost hops = cc

  length_bases : (ps : List ℕ) → length ps ≡ length (map (base_of bases) ps)
  length_bases [] = refl
  length_bases (p ∷ ps) = ap suc (length_bases ps)

  abbrev made : ProductValue → ProductValue
  made p = record { machine = record { states = p.machine.states; frames = p.machine.frames; steps = steps }; bases = bases; count = p.count }

  pub are_marked : (p : ProductValue) → IsProduct m marks p → AreMarked m marks p
  are_marked p is = subst (AreMarked m marks) same go
    where
      same : made p ≡ p
      same = ap (λ (v : List MachineStep × List StepNo). record { machine = record { states = p.machine.states; frames = p.machine.frames; steps = v.0 }; bases = v.1; count = p.count })
          (ap (λ s. (s, bases)) (sym is.steps) ∙ ap (λ b. (p.machine.steps, b)) (sym is.bases))

      go : AreMarked m marks (made p)
      go x i ks y j li lj run =
          let r = run_down ks x i [] (state_at marks y j) [] li run in
          let ends = state_apart marks r.to r.after y j r.below lj (sym r.is_to) in
          let none : r.left ≡ [] = no_frames r.left joint r.is_left in
          let runs : Run (system_of m.steps) x [] (map (base_of bases) ks) y [] =
          subst (λ v. Run (system_of m.steps) x [] (map (base_of bases) ks) y (frames_of v)) none (subst (λ z. Run (system_of m.steps) x [] (map (base_of bases) ks) z (frames_of r.left)) ends.0 r.run) in
          let marked : Run (marking marks m.steps) i [] (map (base_of bases) ks) j [] =
          subst (λ v. Run (marking marks m.steps) i [] (map (base_of bases) ks) j (marks_in v)) none (subst (λ z. Run (marking marks m.steps) i [] (map (base_of bases) ks) z (marks_in r.left)) ends.1 r.is_marked) in
          ((runs, marked), weight_same ks (map (base_of bases) ks) r.cost r.hops)

  pub are_in : (p : ProductValue) → IsProduct m marks p → AreIn m marks p
  are_in p is = subst (AreIn m marks) same go
    where
      same : made p ≡ p
      same = ap (λ (v : List MachineStep × List StepNo). record { machine = record { states = p.machine.states; frames = p.machine.frames; steps = v.0 }; bases = v.1; count = p.count })
          (ap (λ s. (s, bases)) (sym is.steps) ∙ ap (λ b. (p.machine.steps, b)) (sym is.bases))

      go : AreIn m marks (made p)
      go x i ks y j li run =
          let r = run_up ks x i [] y [] j [] li run.0 run.1 in
          let none : r.left ≡ [] = no_frames r.left (λ b. b.frame) r.is_frames in
          let runs : Run (system_of steps) (state_at marks x i) [] r.numbers (state_at marks y j) [] = subst (λ v. Run (system_of steps) (state_at marks x i) [] r.numbers (state_at marks y j) (map joint v)) none r.run in
          let hops : length r.numbers ≡ length ks = length_bases r.numbers ∙ ap length r.are_bases in
          (r.numbers, runs, r.are_bases, weight_same r.numbers ks r.cost hops)

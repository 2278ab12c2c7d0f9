-- What is offered for a last step, and what is not there to be offered.
use Rattle.std.proofs.Common.{◌≡◌, ◌≢◌, ℕ, List, [], ◌∷◌, ◌++◌, Bor, refl, sym, ◌∙◌, ap, subst, inl, inr, append_assoc, length, Contains, Some, slice_get}
use Rattle.std.proofs.lemmas.List.{append-nil}
use Rattle.ml_base.specs.declared.numbers.StateNo.{StateNo}
use Rattle.ml_base.specs.declared.numbers.Root.TheVariants.{Entry}
use Rattle.adapt_machine.specs.declared.MachineStep.{MachineStep}
use Rattle.adapt_machine.specs.declared.MachineKind.TheVariants.{Flat, Push, Pop}
use Rattle.adapt_machine.specs.Walks.{IsStep}
use Rattle.segment_grammar.specs.Reached.{IsSegmentUnder, IsReached}
use Rattle.segment_grammar.specs.Index.{step_no}
use Rattle.segment_grammar.specs.Rows.{row_of}
use Rattle.segment_grammar.proofs.Places.{same_at, slice_get-below}
use Rattle.adapt_machine.specs.Machine.{MachineValue}
use Rattle.k_cheapest.specs.declared.ways.Ways.{Ways}
use Rattle.k_cheapest.specs.Ways.{AreWays}
use Rattle.k_cheapest.specs.declared.todo.Todo.{Todo}
use Rattle.k_cheapest.specs.declared.todo.TodoForm.{TodoForm, Goal, Step}
use Rattle.k_cheapest.specs.declared.given.Given.{Given}
use Rattle.k_cheapest.specs.declared.choice.Choice.{Choice}
use Rattle.k_cheapest.specs.declared.expand.Nest.{Nest}
use Rattle.k_cheapest.specs.Todos.{Stands}
use Rattle.k_cheapest.specs.Givens.{given_steps}
use Rattle.k_cheapest.specs.Items.{HasBefore}
use Rattle.k_cheapest.specs.Nests.{IsNest}
use Rattle.k_cheapest.proofs.Parting.{begins_empty}
use Rattle.k_cheapest.specs.Choices.{BeginsAt, IsChoice, Chooses, ChoosesNone, ChoosesFlat, ChoosesNest, ChoosesStep}

-- the same list, by the parts of what stands before its last steps
nest_words : (ks us under vs below before segment last tail : List ℕ) (push pop : ℕ) → ks ≡ us ++ last → us ≡ under ++ vs → under ≡ below ++ push ∷ [] → below ≡ before ++ segment
    → last ≡ pop ∷ tail → ks ≡ (before ++ (segment ++ push ∷ (vs ++ pop ∷ []))) ++ tail
nest_words ks us under vs below before segment last tail push pop a b c d e = rw (a, b, c, d, e) (simp append_assoc)

module _ (steps : List MachineStep) (starts : List StateNo) (c : Choice) where
  -- No steps.

  pub none_there : IsChoice steps starts c → BeginsAt starts c.root c.state → (ks : List ℕ) → HasBefore steps starts c.rest.now.form c.given ks → ChoosesNone steps starts c ks
  none_there is begins ks has = (begins_empty steps starts c is begins, (has.0, has.1, rw append-nil has.2))

  pub none_back : (ks : List ℕ) → ChoosesNone steps starts c ks → HasBefore steps starts c.rest.now.form c.given ks
  none_back ks none = (none.1.0, none.1.1, rw append-nil at none.1.2)

  -- A flat step.

  module _ (k : ℕ) (t : MachineStep) (is : IsStep steps Flat t.from k t c.state) where
    from_same : (x : StateNo) (u : MachineStep) → IsStep steps Flat x k u c.state → x ≡ t.from
    from_same x u also = sym also.leaves ∙ ap (λ v. v.from) (same_at steps k u t also.found is.found)

    pub flat_none : (IsReached steps starts c.root t.from → ⊥) → (ks : List ℕ) → ChoosesFlat steps starts c k ks → ⊥
    flat_none none ks flat =
        let from : flat.1 ≡ t.from = from_same flat.1 flat.3.0 flat.3.1 in
        none (flat.0, subst (λ v. IsSegmentUnder steps starts c.root flat.0 v) from flat.2)

    module _ (g : Given) (given : given_steps g ≡ k ∷ given_steps c.given) (form : TodoForm) (goal : form ≡ Goal c.rest c.root t.from) where
      pub flat_there : (ks : List ℕ) → HasBefore steps starts form g ks → ChoosesFlat steps starts c k ks
      flat_there ks has =
          let h : HasBefore steps starts (Goal c.rest c.root t.from) g ks = subst (λ f. HasBefore steps starts f g ks) goal has in
          let e : ks ≡ (h.1.0 ++ (h.1.1 ++ k ∷ [])) ++ given_steps c.given = rw (h.2, h.1.4, given) (simp append_assoc) in
          (h.1.1, t.from, h.1.3, (t, is), (h.1.0, h.1.2, e))

      pub flat_back : (ks : List ℕ) → ChoosesFlat steps starts c k ks → HasBefore steps starts form g ks
      flat_back ks flat =
          let from : flat.1 ≡ t.from = from_same flat.1 flat.3.0 flat.3.1 in
          let chosen : Chooses steps starts c (flat.0 ++ k ∷ []) ks = flat.4 in
          let e : ks ≡ (chosen.0 ++ flat.0) ++ given_steps g = rw (chosen.2, given) (simp append_assoc) in
          subst (λ f. HasBefore steps starts f g ks) (sym goal)
          (chosen.0 ++ flat.0, (chosen.0, flat.0, chosen.1, subst (λ v. IsSegmentUnder steps starts c.root flat.0 v) from flat.2, refl), e)

  -- A nest.

  module _ (n : Nest) (is : IsNest steps n c.state) where
    push_from : (x e : StateNo) (u : MachineStep) → IsStep steps Push x n.push.0 u e → x ≡ n.pushed.from
    push_from x e u also = sym also.leaves ∙ ap (λ v. v.from) (same_at steps n.push.0 u n.pushed also.found is.push.found)

    push_to : (x e : StateNo) (u : MachineStep) → IsStep steps Push x n.push.0 u e → e ≡ n.pushed.to
    push_to x e u also = sym also.enters ∙ ap (λ v. v.to) (same_at steps n.push.0 u n.pushed also.found is.push.found)

    pop_from : (y : StateNo) (u : MachineStep) → IsStep steps Pop y n.pop.0 u c.state → y ≡ n.popped.from
    pop_from y u also = sym also.leaves ∙ ap (λ v. v.from) (same_at steps n.pop.0 u n.popped also.found is.pop.found)

    pub nest_under : (ks : List ℕ) (nest : ChoosesNest steps starts c n.push.0 n.pop.0 ks) → IsSegmentUnder steps starts c.root nest.0 n.pushed.from
    nest_under ks nest = subst (λ v. IsSegmentUnder steps starts c.root nest.0 v) (push_from nest.2 nest.3 nest.7.0 nest.7.1) nest.6

    pub nest_inner : (ks : List ℕ) (nest : ChoosesNest steps starts c n.push.0 n.pop.0 ks) → IsSegmentUnder steps starts (Entry n.pushed.to) nest.1 n.popped.from
    nest_inner ks nest =
        subst (λ v. IsSegmentUnder steps starts (Entry n.pushed.to) nest.1 v) (pop_from nest.4 nest.9.0 nest.9.1)
        (subst (λ v. IsSegmentUnder steps starts (Entry v) nest.1 nest.4) (push_to nest.2 nest.3 nest.7.0 nest.7.1) nest.8)

    pub nest_none_under : (IsReached steps starts c.root n.pushed.from → ⊥) → (ks : List ℕ) → ChoosesNest steps starts c n.push.0 n.pop.0 ks → ⊥
    nest_none_under none ks nest = none (nest.0, nest_under ks nest)

    pub nest_none_inner : (IsReached steps starts (Entry n.pushed.to) n.popped.from → ⊥) → (ks : List ℕ) → ChoosesNest steps starts c n.push.0 n.pop.0 ks → ⊥
    nest_none_inner none ks nest = none (nest.1, nest_inner ks nest)

    module _ (g : Given) (given : given_steps g ≡ n.pop.0 ∷ given_steps c.given) (under pushing : Bor Todo) (form : TodoForm)
        (first : under.now.form ≡ Goal c.rest c.root n.pushed.from) (then : pushing.now.form ≡ Step under n.push) (last : form ≡ Goal pushing (Entry n.pushed.to) n.popped.from) where
      pub nest_there : (ks : List ℕ) → HasBefore steps starts form g ks → ChoosesNest steps starts c n.push.0 n.pop.0 ks
      nest_there ks has =
          let h : HasBefore steps starts (Goal pushing (Entry n.pushed.to) n.popped.from) g ks = subst (λ f. HasBefore steps starts f g ks) last has in
          let p : Stands steps starts (Step under n.push) h.1.0 = subst (λ f. Stands steps starts f h.1.0) then h.1.2 in
          let u : Stands steps starts (Goal c.rest c.root n.pushed.from) p.0 = subst (λ f. Stands steps starts f p.0) first p.1 in
          let e : ks ≡ (u.0 ++ (u.1 ++ n.push.0 ∷ (h.1.1 ++ n.pop.0 ∷ []))) ++ given_steps c.given = nest_words ks h.0 h.1.0 h.1.1 p.0 u.0 u.1 (given_steps g) (given_steps c.given) n.push.0 n.pop.0 h.2 h.1.4 p.2 u.4 given in (
            u.1,
            h.1.1,
            n.pushed.from,
            n.pushed.to,
            n.popped.from,
            n.pushed.frame,
            u.3,
            (n.pushed, is.push, refl),
            h.1.3,
            (n.popped, is.pop, sym is.frame),
            (u.0, u.2, e),
          )

      pub nest_back : (ks : List ℕ) → ChoosesNest steps starts c n.push.0 n.pop.0 ks → HasBefore steps starts form g ks
      nest_back ks nest =
          let chosen : Chooses steps starts c (nest.0 ++ n.push.0 ∷ (nest.1 ++ n.pop.0 ∷ [])) ks = nest.10 in
          let u : Stands steps starts (Goal c.rest c.root n.pushed.from) (chosen.0 ++ nest.0) = (chosen.0, nest.0, chosen.1, nest_under ks nest, refl) in
          let p : Stands steps starts (Step under n.push) ((chosen.0 ++ nest.0) ++ n.push.0 ∷ []) =
          (chosen.0 ++ nest.0, subst (λ f. Stands steps starts f (chosen.0 ++ nest.0)) (sym first) u, refl) in
          let h : Stands steps starts (Goal pushing (Entry n.pushed.to) n.popped.from) (((chosen.0 ++ nest.0) ++ n.push.0 ∷ []) ++ nest.1) = (
            (chosen.0 ++ nest.0) ++ n.push.0 ∷ [],
            nest.1,
            subst (λ f. Stands steps starts f ((chosen.0 ++ nest.0) ++ n.push.0 ∷ [])) (sym then) p,
            nest_inner ks nest,
            refl,
          ) in
          let e : ks ≡ (((chosen.0 ++ nest.0) ++ n.push.0 ∷ []) ++ nest.1) ++ given_steps g = rw (chosen.2, given) (simp append_assoc) in
          subst (λ f. HasBefore steps starts f g ks) (sym last) (((chosen.0 ++ nest.0) ++ n.push.0 ∷ []) ++ nest.1, h, e)

  -- What there is not.

  pub not_a_push : (k l : ℕ) (t : MachineStep) → slice_get steps k ≡ Some t → t.kind ≢ Push → (ks : List ℕ) → ChoosesNest steps starts c k l ks → ⊥
  not_a_push k l t found other ks nest = other (ap (λ v. v.kind) (same_at steps k t nest.7.0 found nest.7.1.found) ∙ nest.7.1.is_kind)

  pub another_frame : (k l : ℕ) (t u : MachineStep) → slice_get steps k ≡ Some t → slice_get steps l ≡ Some u → t.frame ≢ u.frame → (ks : List ℕ) → ChoosesNest steps starts c k l ks → ⊥
  another_frame k l t u found at other ks nest =
      other
      (
      ap (λ v. v.frame) (same_at steps k t nest.7.0 found nest.7.1.found) ∙ nest.7.2 ∙ sym nest.9.2
      ∙ ap (λ v. v.frame) (same_at steps l nest.9.0 u nest.9.1.found at)
      )

  module _ (l : ℕ) (t : MachineStep) (found : slice_get steps l ≡ Some t) where
    flat_is : (ks : List ℕ) → ChoosesFlat steps starts c l ks → (t.kind ≡ Flat) × (t.to ≡ c.state)
    flat_is ks flat =
        let same : t ≡ flat.3.0 = same_at steps l t flat.3.0 found flat.3.1.found in
        (ap (λ v. v.kind) same ∙ flat.3.1.is_kind, ap (λ v. v.to) same ∙ flat.3.1.enters)

    nest_is : (k : ℕ) (ks : List ℕ) → ChoosesNest steps starts c k l ks → (t.kind ≡ Pop) × (t.to ≡ c.state)
    nest_is k ks nest =
        let same : t ≡ nest.9.0 = same_at steps l t nest.9.0 found nest.9.1.found in
        (ap (λ v. v.kind) same ∙ nest.9.1.is_kind, ap (λ v. v.to) same ∙ nest.9.1.enters)

    pub enters_another : t.to ≢ c.state → (ks : List ℕ) → ChoosesStep steps starts c l ks → ⊥
    enters_another other ks (inl flat) = other (flat_is ks flat).1
    enters_another other ks (inr nest) = other (nest_is nest.0 ks nest.1).1

    pub ends_none : t.kind ≡ Push → (ks : List ℕ) → ChoosesStep steps starts c l ks → ⊥
    ends_none kind ks (inl flat) = let e : t.kind ≡ Flat = (flat_is ks flat).0 in cc
    ends_none kind ks (inr nest) = let e : t.kind ≡ Pop = (nest_is nest.0 ks nest.1).0 in cc

    pub ends_flat : t.kind ≡ Flat → (ks : List ℕ) → ChoosesStep steps starts c l ks → ChoosesFlat steps starts c l ks
    ends_flat kind ks (inl flat) = flat
    ends_flat kind ks (inr nest) = let e : t.kind ≡ Pop = (nest_is nest.0 ks nest.1).0 in absurd (cc)

    pub ends_nest : t.kind ≡ Pop → (ks : List ℕ) → ChoosesStep steps starts c l ks → (k : ℕ) × ChoosesNest steps starts c k l ks
    ends_nest kind ks (inl flat) = let e : t.kind ≡ Flat = (flat_is ks flat).0 in absurd (cc)
    ends_nest kind ks (inr nest) = nest

  -- Rows that have what there is.

  module _ (m : MachineValue) (same : m.steps ≡ steps) (w : Ways) (ways : AreWays m (length m.steps) w) where
    at_machine : (k : ℕ) (t : MachineStep) → slice_get steps k ≡ Some t → slice_get m.steps k ≡ Some t
    at_machine k t found = subst (λ v. slice_get v k ≡ Some t) (sym same) found

    pub push_listed : (l : ℕ) (u : MachineStep) → slice_get steps l ≡ Some u → (k : ℕ) (ks : List ℕ) → ChoosesNest steps starts c k l ks → Contains (row_of w.pushes u.frame.0) (step_no k)
    push_listed l u at k ks nest =
        let t : MachineStep = nest.7.0 in
        let found : slice_get m.steps k ≡ Some t = at_machine k t nest.7.1.found in
        let frame : t.frame ≡ u.frame = nest.7.2 ∙ sym nest.9.2 ∙ ap (λ v. v.frame) (same_at steps l nest.9.0 u nest.9.1.found at) in
        subst (λ v. Contains (row_of w.pushes v.0) (step_no k)) frame (ways.pushes k t (slice_get-below m.steps k t found) found nest.7.1.is_kind)

    into_listed : (l : ℕ) (t : MachineStep) → slice_get steps l ≡ Some t → t.kind ≢ Push → t.to ≡ c.state → Contains (row_of w.into c.state.0) (step_no l)
    into_listed l t at other to =
        let found : slice_get m.steps l ≡ Some t = at_machine l t at in
        subst (λ v. Contains (row_of w.into v.0) (step_no l)) to (ways.into l t (slice_get-below m.steps l t found) found other)

    not_push_flat : (t : MachineStep) → t.kind ≡ Flat → t.kind ≢ Push
    not_push_flat t kind = λ push. cc

    not_push_pop : (t : MachineStep) → t.kind ≡ Pop → t.kind ≢ Push
    not_push_pop t kind = λ push. cc

    pub step_listed : (l : ℕ) (ks : List ℕ) → ChoosesStep steps starts c l ks → Contains (row_of w.into c.state.0) (step_no l)
    step_listed l ks (inl flat) = into_listed l flat.3.0 flat.3.1.found (not_push_flat flat.3.0 flat.3.1.is_kind) flat.3.1.enters
    step_listed l ks (inr nest) = into_listed l nest.1.9.0 nest.1.9.1.found (not_push_pop nest.1.9.0 nest.1.9.1.is_kind) nest.1.9.1.enters

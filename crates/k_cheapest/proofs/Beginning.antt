-- What is offered first, and what is offered when a step or a segment is next.
use Rattle.std.proofs.Common.{◌≡◌, ℕ, List, [], ◌∷◌, ◌++◌, Bor, refl, sym, ◌∙◌, ap, subst, append_assoc}
use Rattle.std.proofs.lemmas.List.{append-nil}
use Rattle.ml_base.specs.declared.numbers.StateNo.{StateNo}
use Rattle.ml_base.specs.declared.numbers.StepNo.{StepNo}
use Rattle.ml_base.specs.declared.numbers.Root.TheVariants.{Request}
use Rattle.adapt_machine.specs.declared.MachineStep.{MachineStep}
use Rattle.segment_grammar.specs.Reached.{IsSegmentUnder}
use Rattle.k_cheapest.specs.declared.todo.Todo.{Todo}
use Rattle.k_cheapest.specs.declared.todo.TodoForm.{TodoForm, Done, Goal, Step}
use Rattle.k_cheapest.specs.declared.given.Given.{Given}
use Rattle.k_cheapest.specs.declared.choice.Choice.{Choice}
use Rattle.k_cheapest.specs.Todos.{Stands}
use Rattle.k_cheapest.specs.Givens.{given_steps}
use Rattle.k_cheapest.specs.Items.{HasBefore}
use Rattle.k_cheapest.specs.Choices.{ChoosesAny}

module _ (steps : List MachineStep) (starts : List StateNo) where
  -- All walks to a target.

  module _ (form : TodoForm) (nothing : Bor Todo) (none : Given) (target : StateNo) (goal : form ≡ Goal nothing Request target) (done : nothing.now.form ≡ Done) (empty : given_steps none ≡ []) where
    walk_words : (ks us before segment : List ℕ) → ks ≡ us ++ given_steps none → us ≡ before ++ segment → before ≡ [] → ks ≡ segment
    walk_words ks us before segment a b c = a ∙ ap (λ v. us ++ v) empty ∙ append-nil us ∙ b ∙ ap (λ v. v ++ segment) c

    pub walk_there : (ks : List ℕ) → HasBefore steps starts form none ks → IsSegmentUnder steps starts Request ks target
    walk_there ks has =
        let h : HasBefore steps starts (Goal nothing Request target) none ks = subst (λ f. HasBefore steps starts f none ks) goal has in
        let nil : Stands steps starts Done h.1.0 = subst (λ f. Stands steps starts f h.1.0) done h.1.2 in
        let segment : List ℕ = h.1.1 in
        let is : IsSegmentUnder steps starts Request segment target = h.1.3 in
        subst (λ v. IsSegmentUnder steps starts Request v target) (sym (walk_words ks h.0 h.1.0 segment h.2 h.1.4 nil)) is

    pub walk_back : (ks : List ℕ) → IsSegmentUnder steps starts Request ks target → HasBefore steps starts form none ks
    walk_back ks is =
        let nil : Stands steps starts nothing.now.form [] = subst (λ f. Stands steps starts f []) (sym done) refl in
        let e : ks ≡ ks ++ given_steps none = sym (ap (λ v. ks ++ v) empty ∙ append-nil ks) in
        subst (λ f. HasBefore steps starts f none ks) (sym goal) (ks, ([], ks, nil, is, refl), e)

  -- A step is next.

  module _ (form : TodoForm) (rest : Bor Todo) (step : StepNo) (old new : Given) (is : form ≡ Step rest step) (given : given_steps new ≡ step.0 ∷ given_steps old) where
    pub step_there : (ks : List ℕ) → HasBefore steps starts rest.now.form new ks → HasBefore steps starts form old ks
    step_there ks has =
        let us : List ℕ = has.0 in
        let e : ks ≡ (us ++ step.0 ∷ []) ++ given_steps old = has.2 ∙ ap (λ v. us ++ v) given ∙ sym (append_assoc us (step.0 ∷ []) (given_steps old)) in
        subst (λ f. HasBefore steps starts f old ks) (sym is) (us ++ step.0 ∷ [], (us, has.1, refl), e)

    step_words : (ks us before : List ℕ) → ks ≡ us ++ given_steps old → us ≡ before ++ step.0 ∷ [] → ks ≡ before ++ given_steps new
    step_words ks us before a b = a ∙ ap (λ v. v ++ given_steps old) b ∙ append_assoc before (step.0 ∷ []) (given_steps old) ∙ ap (λ v. before ++ v) (sym given)

    pub step_back : (ks : List ℕ) → HasBefore steps starts form old ks → HasBefore steps starts rest.now.form new ks
    step_back ks has =
        let h : HasBefore steps starts (Step rest step) old ks = subst (λ f. HasBefore steps starts f old ks) is has in
        (h.1.0, h.1.1, step_words ks h.0 h.1.0 h.2 h.1.2)

  -- A segment is next.

  module _ (form : TodoForm) (c : Choice) (is : form ≡ Goal c.rest c.root c.state) where
    pub any_there : (ks : List ℕ) → ChoosesAny steps starts c ks → HasBefore steps starts form c.given ks
    any_there ks any = subst (λ f. HasBefore steps starts f c.given ks) (sym is) (any.2.0 ++ any.0, (any.2.0, any.0, any.2.1, any.1, refl), any.2.2)

    any_words : (ks us before segment : List ℕ) → ks ≡ us ++ given_steps c.given → us ≡ before ++ segment → ks ≡ (before ++ segment) ++ given_steps c.given
    any_words ks us before segment a b = a ∙ ap (λ v. v ++ given_steps c.given) b

    pub any_back : (ks : List ℕ) → HasBefore steps starts form c.given ks → ChoosesAny steps starts c ks
    any_back ks has =
        let h : HasBefore steps starts (Goal c.rest c.root c.state) c.given ks = subst (λ f. HasBefore steps starts f c.given ks) is has in
        (h.1.1, h.1.3, (h.1.0, h.1.2, any_words ks h.0 h.1.0 h.1.1 h.2 h.1.4))

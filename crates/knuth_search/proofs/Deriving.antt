-- Derivations of what follows from derived pairs.
use Rattle.std.proofs.Common.{◌≡◌, ℕ, ◌<◌, List, [], refl, sym, ◌∙◌, ap, subst, Contains, Some, slice_get}
use Rattle.ml_base.specs.declared.numbers.StateNo.{StateNo}
use Rattle.ml_base.specs.declared.numbers.StepNo.{StepNo}
use Rattle.ml_base.specs.declared.numbers.Root.{Root}
use Rattle.ml_base.specs.declared.numbers.Root.TheVariants.{Request, Entry}
use Rattle.ml_base.specs.declared.weight.Weight.{Weight}
use Rattle.ml_base.specs.Weight.{cap, capped_total}
use Rattle.walk_grammar.specs.System as walk
use Rattle.walk_grammar.proofs.Found.{IsFound, found_opens}
use Rattle.adapt_machine.specs.declared.MachineStep.{MachineStep}
use Rattle.adapt_machine.specs.Walks.{cost_found, system_of, weight_of, full_weight_of}
use Rattle.segment_grammar.specs.declared.potentials.Pot.{Pot}
use Rattle.segment_grammar.specs.Pots.{pot}
use Rattle.segment_grammar.specs.Index.{IsFlatFrom, IsPushFrom, IsPopAt}
use Rattle.segment_grammar.specs.Reached.{origin_of, IsEntered, IsSegmentUnder}
use Rattle.segment_grammar.proofs.Places.{same_at}
use Rattle.deriv_arena.specs.declared.Deriv.{Deriv}
use Rattle.deriv_arena.specs.Derivation.{unfolding_of, IsOver, Rests, Extends, Encloses, Nests, step_weight}
use Rattle.deriv_arena.proofs.Segments.{form_segment}
use Rattle.deriv_arena.proofs.Weights.{form_weight}
use Rattle.knuth_search.specs.Derived.{Task, BeginsAt, IsDerived}
use Rattle.knuth_search.specs.Following.{zero, stepped, IsStepOf, Meets}

module _ (task : Task) where
  abbrev steps : List MachineStep
  steps = task.machine.steps

  -- the unfolding of a derivation is a segment under its root, of its weight
  pub derived_segment : (p : Pot) (d : Deriv) → IsDerived task p d → IsSegmentUnder steps task.starts p.root (unfolding_of d) p.state
  derived_segment p d is = go p.root is.first
    where
      run : walk.Run (system_of steps) d.first [] (unfolding_of d) p.state []
      run = subst (λ y. walk.Run (system_of steps) d.first [] (unfolding_of d) y []) is.last (form_segment steps d.first d.last d.weight d.form is.over)

      go : (r : Root) → BeginsAt task r d.first → IsSegmentUnder steps task.starts r (unfolding_of d) p.state
      go Request c = (d.first, c, run)
      go (Entry e) c = (c.1, subst (λ x. walk.Run (system_of steps) x [] (unfolding_of d) p.state []) c.0 run)

  pub derived_weight : (p : Pot) (d : Deriv) → IsDerived task p d → weight_of steps (unfolding_of d) ≡ p.weight
  derived_weight p d is = sym (form_weight steps d.first d.last d.weight d.form is.over) ∙ is.weight

  step_cost : (k : ℕ) (t : MachineStep) → slice_get steps k ≡ Some t → step_weight steps k ≡ cap (record { cost = t.cost; hops = 1 })
  step_cost k t found =
      let weigh : ℕ → Weight = λ c. cap (record { cost = c; hops = 1 }) in
      ap weigh (cost_is found)
    where
      cost_is : slice_get steps k ≡ Some t → (system_of steps).cost k ≡ t.cost
      cost_is e = ap cost_found e

  module _ (prev : Pot) (d : Deriv) (is : IsDerived task prev d) (k : StepNo) where
    pub derived_flat : (t : MachineStep) → slice_get steps k.0 ≡ Some t → t.to.0 < task.machine.states → (w : Weight) → w ≡ stepped prev.weight t → (n : Deriv) → Extends steps d k.0 n → IsOver steps n
        → IsDerived task (pot prev.root t.to w) n
    derived_flat t found to w weighs n extends over = record {
      over = over;
      first = subst (λ x. BeginsAt task prev.root x) (sym extends.first) is.first;
      last = sym extends.keeps.1.enters ∙ ap (λ v. v.to) (same_at steps k.0 extends.keeps.0 t extends.keeps.1.found found);
      weight = extends.weight ∙ ap (λ v. capped_total v (step_weight steps k.0)) is.weight ∙ ap (λ v. capped_total prev.weight v) (step_cost k.0 t found) ∙ sym weighs;
      within = record { state = to; root = is.within.root };
    }

    pushes_there : (f : IsStepOf steps (IsPushFrom prev.state) k) → (system_of steps).Pushes prev.state k.0 f.step.frame f.step.to
    pushes_there f = (f.step, record { found = f.found; is_kind = f.passes.0; leaves = f.passes.1; enters = refl }, refl)

    -- a push makes the state that it enters a root
    pub entered_there : (f : IsStepOf steps (IsPushFrom prev.state) k) → IsEntered steps task.starts f.step.to
    entered_there f =
        let found : IsFound (system_of steps) (λ a. Contains task.starts a) (origin_of prev.root) prev.state (full_weight_of steps (unfolding_of d)).cost (full_weight_of steps (unfolding_of d)).hops =
        record { segment = unfolding_of d; is_segment = derived_segment prev d is; cost = refl; hops = refl } in
        (found_opens (system_of steps) (λ a. Contains task.starts a) (origin_of prev.root) prev.state _ _ found k.0 f.step.frame f.step.to (pushes_there f)).is_segment.0

    pub derived_opened : (f : IsStepOf steps (IsPushFrom prev.state) k) (t : MachineStep) → slice_get steps k.0 ≡ Some t → t.to.0 < task.machine.states → (n : Deriv) → Rests n t.to → IsOver steps n
        → IsDerived task (pot (Entry t.to) t.to zero) n
    derived_opened f t found to n rests over = record {
      over = over;
      first = (rests.first, subst (λ v. IsEntered steps task.starts v.to) (same_at steps k.0 f.step t f.found found) (entered_there f));
      last = rests.last;
      weight = rests.weight;
      within = record { state = to; root = to };
    }

    module _ (inner : Pot) (e : Deriv) (inner_is : IsDerived task inner e) (l : StepNo) (meets : Meets steps prev k inner l) where
      abbrev push : IsStepOf steps (IsPushFrom prev.state) k
      push = meets.enters.push

      abbrev pop : IsStepOf steps (IsPopAt inner.state push.step.frame) l
      pop = meets.pop

      under : inner.root ≡ Entry push.step.to
      under = meets.enters.under

      pub derived_nest : (t u : MachineStep) → slice_get steps k.0 ≡ Some t → slice_get steps l.0 ≡ Some u → u.to.0 < task.machine.states
          → (w : Weight) → w ≡ stepped (capped_total (stepped prev.weight t) inner.weight) u → (n : Deriv) → Nests steps d k.0 e l.0 n → IsOver steps n → IsDerived task (pot prev.root u.to w) n
      derived_nest t u found_t found_u to w weighs n nests over = record {
        over = over;
        first = subst (λ x. BeginsAt task prev.root x) (sym nests.first) is.first;
        last = sym nests.encloses.pops.1.enters ∙ ap (λ v. v.to) (same_at steps l.0 nests.encloses.pops.0 u nests.encloses.pops.1.found found_u);
        weight = nests.weight
            ∙ ap (λ v. capped_total (capped_total (capped_total v (step_weight steps k.0)) e.weight) (step_weight steps l.0)) is.weight
            ∙ ap (λ v. capped_total (capped_total (capped_total prev.weight v) e.weight) (step_weight steps l.0)) (step_cost k.0 t found_t)
            ∙ ap (λ v. capped_total (capped_total (stepped prev.weight t) v) (step_weight steps l.0)) inner_is.weight
            ∙ ap (λ v. capped_total (capped_total (stepped prev.weight t) inner.weight) v) (step_cost l.0 u found_u)
            ∙ sym weighs;
        within = record { state = to; root = is.within.root };
      }

-- the steps leave where the derivations end
pub keeps_there : (steps : List MachineStep) (prev : Pot) (d : Deriv) → d.last ≡ prev.state → (k : StepNo) → (f : IsStepOf steps (IsFlatFrom prev.state) k) → (y : StateNo) × (system_of steps).Keeps d.last k.0 y
keeps_there all prev d last k f = (f.step.to, (f.step, record { found = f.found; is_kind = f.passes.0; leaves = f.passes.1 ∙ sym last; enters = refl }))

pub encloses_there : (task : Task) (steps : List MachineStep) (prev inner : Pot) (d e : Deriv) → d.last ≡ prev.state → e.last ≡ inner.state → BeginsAt task inner.root e.first
    → (k l : StepNo) → (meets : Meets steps prev k inner l) → (z : StateNo) × Encloses steps d k.0 e l.0 z
encloses_there task steps prev inner d e last inner_last begins k l meets =
    let push : IsStepOf steps (IsPushFrom prev.state) k = meets.enters.push in
    let pop : IsStepOf steps (IsPopAt inner.state meets.enters.push.step.frame) l = meets.pop in
    let at : BeginsAt task (Entry meets.enters.push.step.to) e.first = subst (λ r. BeginsAt task r e.first) meets.enters.under begins in (
      pop.step.to,
      record {
        frame = push.step.frame;
        pushes = (push.step, record { found = push.found; is_kind = push.passes.0; leaves = push.passes.1 ∙ sym last; enters = sym at.0 }, refl);
        pops = (pop.step, record { found = pop.found; is_kind = pop.passes.0; leaves = pop.passes.1 ∙ sym inner_last; enters = refl }, pop.passes.2);
      },
    )

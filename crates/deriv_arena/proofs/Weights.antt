-- The weight of a derivation is that of its unfolding.
use Rattle.std.proofs.Common.{◌≡◌, ℕ, ◌+◌, List, [], ◌∷◌, ◌++◌, length, sym, ◌∙◌, ap, arith, append_assoc, length-append}
use Rattle.ml_base.specs.declared.numbers.StateNo.{StateNo}
use Rattle.ml_base.specs.declared.weight.Weight.{Weight}
use Rattle.ml_base.specs.Weight.{capped_total}
use Rattle.ml_base.proofs.Laws.{cap-total}
use Rattle.walk_grammar.specs.System.{cost_of}
use Rattle.walk_grammar.proofs.Found.{cost_append}
use Rattle.adapt_machine.specs.declared.MachineStep.{MachineStep}
use Rattle.adapt_machine.specs.Walks.{system_of, weight_of}
use Rattle.deriv_arena.specs.declared.DerivForm.{DerivForm}
use Rattle.deriv_arena.specs.declared.DerivForm.TheVariants.{Root, Flat', Nest'}
use Rattle.deriv_arena.specs.Derivation.{steps_of, step_weight, IsFormOver}

module _ (steps : List MachineStep) where
  -- with one more step
  weight_of-push : (ks : List ℕ) (k : ℕ) → weight_of steps (ks ++ k ∷ []) ≡ capped_total (weight_of steps ks) (step_weight steps k)
  weight_of-push ks k =
      let cost : cost_of (system_of steps) (ks ++ k ∷ []) ≡ cost_of (system_of steps) ks + (system_of steps).cost k = omega (arith, cost_append (system_of steps) ks (k ∷ [])) in
      let hops : length (ks ++ k ∷ []) ≡ length ks + 1 = simp length-append in
      rw (cost, hops) (cap-total (cost_of (system_of steps) ks) (length ks) ((system_of steps).cost k) 1)

  -- of two lists
  weight_of-append : (ks us : List ℕ) → weight_of steps (ks ++ us) ≡ capped_total (weight_of steps ks) (weight_of steps us)
  weight_of-append ks us =
      rw (cost_append (system_of steps) ks us, length-append ks us)
      (cap-total (cost_of (system_of steps) ks) (length ks) (cost_of (system_of steps) us) (length us))

  -- with one more nest
  weight_of-nest : (ks us : List ℕ) (k l : ℕ)
      → weight_of steps (ks ++ k ∷ (us ++ l ∷ [])) ≡ capped_total (capped_total (capped_total (weight_of steps ks) (step_weight steps k)) (weight_of steps us)) (step_weight steps l)
  weight_of-nest ks us k l =
      let regroup : ks ++ k ∷ (us ++ l ∷ []) ≡ ((ks ++ k ∷ []) ++ us) ++ l ∷ [] = simp append_assoc in
      ap (weight_of steps) regroup
      ∙ weight_of-push ((ks ++ k ∷ []) ++ us) l
      ∙ ap (λ v. capped_total v (step_weight steps l)) (weight_of-append (ks ++ k ∷ []) us)
      ∙ ap (λ v. capped_total (capped_total v (weight_of steps us)) (step_weight steps l)) (weight_of-push ks k)

  pub form_weight : (first last : StateNo) (weight : Weight) (form : DerivForm) → IsFormOver steps first last weight form → weight ≡ weight_of steps (steps_of form)
  form_weight first last weight Root o = o.weight
  form_weight first last weight (Flat' p f l w prev step) o =
      o.1.weight ∙ ap (λ v. capped_total v (step_weight steps step.0)) (form_weight f l w prev o.0) ∙ sym (weight_of-push (steps_of prev) step.0)
  form_weight first last weight (Nest' p f l w prev push q f' l' w' inner pop) o =
      o.2.weight
      ∙ ap (λ v. capped_total (capped_total (capped_total v (step_weight steps push.0)) w') (step_weight steps pop.0)) (form_weight f l w prev o.0)
      ∙ ap (λ v. capped_total (capped_total (capped_total (weight_of steps (steps_of prev)) (step_weight steps push.0)) v) (step_weight steps pop.0)) (form_weight f' l' w' inner o.1)
      ∙ sym (weight_of-nest (steps_of prev) (steps_of inner) push.0 pop.0)

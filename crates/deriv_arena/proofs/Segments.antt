-- The unfolding of a derivation is a segment between its ends.
use Rattle.std.proofs.Common.{ℕ, List, [], ◌∷◌, ◌++◌, refl, sym, subst, inl, inr}
use Rattle.ml_base.specs.declared.numbers.StateNo.{StateNo}
use Rattle.ml_base.specs.declared.numbers.FrameNo.{FrameNo}
use Rattle.ml_base.specs.declared.weight.Weight.{Weight}
use Rattle.walk_grammar.specs.System.{Run}
use Rattle.walk_grammar.proofs.Found.{run_append, run_under}
use Rattle.adapt_machine.specs.declared.MachineStep.{MachineStep}
use Rattle.adapt_machine.specs.Walks.{system_of}
use Rattle.deriv_arena.specs.declared.DerivForm.{DerivForm}
use Rattle.deriv_arena.specs.declared.DerivForm.TheVariants.{Root, Flat', Nest'}
use Rattle.deriv_arena.specs.Derivation.{steps_of, IsFormOver}

module _ (steps : List MachineStep) where
  abbrev Segment : StateNo → List ℕ → StateNo → Type 0
  Segment x ks y = Run (system_of steps) x [] ks y []

  -- two segments, one after the other
  segment_append : (x y z : StateNo) (ks us : List ℕ) → Segment x ks y → Segment y us z → Segment x (ks ++ us) z
  segment_append x y z ks us a b = run_append (system_of steps) ks us x [] y [] z [] a b

  -- a flat step by itself
  flat_segment : (x y : StateNo) (k : ℕ) → (system_of steps).Keeps x k y → Segment x (k ∷ []) y
  flat_segment x y k is = (y, [], inl (is, refl), (refl, refl))

  -- a segment between a push and a pop of one frame
  nest_segment : (x e y z : StateNo) (f : FrameNo) (k l : ℕ) (us : List ℕ) → (system_of steps).Pushes x k f e → Segment e us y → (system_of steps).Pops y l f z
      → Segment x (k ∷ (us ++ l ∷ [])) z
  nest_segment x e y z f k l us push inside pop =
      let over : Run (system_of steps) e (f ∷ []) us y (f ∷ []) = run_under (system_of steps) us e [] y [] (f ∷ []) inside in
      (e, f ∷ [], inr (inl (f, push, refl)), run_append (system_of steps) us (l ∷ []) e (f ∷ []) y (f ∷ []) z [] over (z, [], inr (inr (f, pop, refl)), (refl, refl)))

  pub form_segment : (first last : StateNo) (weight : Weight) (form : DerivForm) → IsFormOver steps first last weight form → Run (system_of steps) first [] (steps_of form) last []
  form_segment first last weight Root o = (sym o.last, refl)
  form_segment first last weight (Flat' p f l w prev step) o =
      subst (λ v. Segment v (steps_of prev ++ step.0 ∷ []) last) (sym o.1.first)
      (segment_append f l last (steps_of prev) (step.0 ∷ []) (form_segment f l w prev o.0) (flat_segment l last step.0 o.1.keeps))
  form_segment first last weight (Nest' p f l w prev push q f' l' w' inner pop) o =
      subst (λ v. Segment v (steps_of prev ++ push.0 ∷ (steps_of inner ++ pop.0 ∷ [])) last) (sym o.2.first)
      (segment_append f l last (steps_of prev) (push.0 ∷ (steps_of inner ++ pop.0 ∷ [])) (form_segment f l w prev o.0)
      (nest_segment l f' l' last o.2.encloses.frame push.0 pop.0 (steps_of inner) o.2.encloses.pushes (form_segment f' l' w' inner o.1) o.2.encloses.pops))

-- Runs of hops are runs of the system of the hops, with the stack turned round: there its top is first, here it is last.
use Rattle.std.proofs.Common.{◌≡◌, inl, inr, List, [], ◌∷◌, ◌++◌, refl, sym, ◌∙◌, ap, subst, reverse}
use Rattle.std.specs.List.{AllByRecursion}
use Rattle.std.proofs.lemmas.List.{reverse-append, reverse-reverse}
use Rattle.walk_grammar.specs.System.{Goes, Run as SystemRun}
use Rattle.walk_grammar.proofs.Found.{run_under}
use Rattle.circuit_spec.specs.declared.hops.Frame.{Frame}
use Rattle.circuit_spec.specs.declared.hops.Hop.{Hop}
use Rattle.circuit_spec.specs.declared.hops.PlaceName.{PlaceName}
use Rattle.circuit_spec.specs.declared.hops.Unit.{Unit as DataUnit}
use Rattle.circuit_spec.specs.Network.{Topology}
use Rattle.circuit_spec.specs.Steps.{Step, Run}
use Rattle.circuit_spec.specs.Segments.{unit_in}
use Rattle.circuit_spec.specs.HopRules.{hop_system}
use Rattle.circuit_spec.proofs.Effects.{Effect, keeps, puts, takes, with_stack, effect}

abbrev pub place_of : DataUnit → PlaceName
place_of u = record { class = u.class; label = u.label }

-- A step of the system is a step over every stack.

kept_on : (T : Topology) (u : DataUnit) (h : Hop) (v : DataUnit) → Effect T u h v → u.stack ≡ [] → v.stack ≡ [] → (s : List Frame) → Step T (with_stack s u) h (with_stack s v)
kept_on T u h v (keeps _ e step) low high s = step s
kept_on T u h v (puts g _ e step) low high s = let f : [] ≡ [] ++ g ∷ [] = sym high ∙ e ∙ ap (λ x. x ++ g ∷ []) low in cc
kept_on T u h v (takes g _ e step) low high s = let f : [] ≡ [] ++ g ∷ [] = sym low ∙ e ∙ ap (λ x. x ++ g ∷ []) high in cc

put_on : (T : Topology) (u : DataUnit) (h : Hop) (v : DataUnit) (frame : Frame) → Effect T u h v → u.stack ≡ [] → v.stack ≡ frame ∷ [] → (s : List Frame) → Step T (with_stack s u) h (with_stack (s ++ frame ∷ []) v)
put_on T u h v frame (keeps _ e step) low high s = let f : frame ∷ [] ≡ [] = sym high ∙ e ∙ low in cc
put_on T u h v frame (puts g _ e step) low high s =
    let f : frame ∷ [] ≡ [] ++ g ∷ [] = sym high ∙ e ∙ ap (λ x. x ++ g ∷ []) low in
    let same : g ≡ frame = cc in
    let P : Frame → Type 0 = λ x. Step T (with_stack s u) h (with_stack (s ++ x ∷ []) v) in
    subst P same (step s)
put_on T u h v frame (takes g _ e step) low high s = let f : [] ≡ (frame ∷ []) ++ g ∷ [] = sym low ∙ e ∙ ap (λ x. x ++ g ∷ []) high in cc

taken_off : (T : Topology) (u : DataUnit) (h : Hop) (v : DataUnit) (frame : Frame) → Effect T u h v → u.stack ≡ frame ∷ [] → v.stack ≡ [] → (s : List Frame) → Step T (with_stack (s ++ frame ∷ []) u) h (with_stack s v)
taken_off T u h v frame (keeps _ e step) low high s = let f : [] ≡ frame ∷ [] = sym high ∙ e ∙ low in cc
taken_off T u h v frame (puts g _ e step) low high s = let f : [] ≡ (frame ∷ []) ++ g ∷ [] = sym high ∙ e ∙ ap (λ x. x ++ g ∷ []) low in cc
taken_off T u h v frame (takes g _ e step) low high s =
    let f : frame ∷ [] ≡ [] ++ g ∷ [] = sym low ∙ e ∙ ap (λ x. x ++ g ∷ []) high in
    let same : g ≡ frame = cc in
    let P : Frame → Type 0 = λ x. Step T (with_stack (s ++ x ∷ []) u) h (with_stack s v) in
    subst P same (step s)

turned : (f : Frame) (s : List Frame) → reverse (f ∷ s) ≡ reverse s ++ f ∷ []
turned f s = reverse-append (f ∷ []) s

module _ (T : Topology) (Fits : Hop → Type 0) where
  goes_step : (x : PlaceName) (s : List Frame) (h : Hop) (y : PlaceName) (t : List Frame) → Goes (hop_system T Fits) x s h y t → Fits h × Step T (unit_in x (reverse s)) h (unit_in y (reverse t))
  goes_step x s h y t (inl a) =
      let P : List Frame → Type 0 = λ v. Step T (unit_in x (reverse s)) h (unit_in y (reverse v)) in
      (a.0.0, subst P (sym a.1) (kept_on T (unit_in x []) h (unit_in y []) (effect T (unit_in x []) h (unit_in y []) a.0.1) refl refl (reverse s)))
  goes_step x s h y t (inr (inl (frame, b, e))) =
      let P : List Frame → Type 0 = λ v. Step T (unit_in x (reverse s)) h (unit_in y v) in
      (b.0, subst P (sym (turned frame s) ∙ ap reverse (sym e)) (put_on T (unit_in x []) h (unit_in y (frame ∷ [])) frame (effect T (unit_in x []) h (unit_in y (frame ∷ [])) b.1) refl refl (reverse s)))
  goes_step x s h y t (inr (inr (frame, b, e))) =
      let P : List Frame → Type 0 = λ v. Step T (unit_in x v) h (unit_in y (reverse t)) in
      (b.0, subst P (sym (turned frame t) ∙ ap reverse (sym e)) (taken_off T (unit_in x (frame ∷ [])) h (unit_in y []) frame (effect T (unit_in x (frame ∷ [])) h (unit_in y []) b.1) refl refl (reverse t)))

  step_goes : (u : DataUnit) (h : Hop) (v : DataUnit) → Fits h → Effect T u h v → Goes (hop_system T Fits) (place_of u) (reverse u.stack) h (place_of v) (reverse v.stack)
  step_goes u h v fits (keeps _ e step) = inl ((fits, step []), ap reverse e)
  step_goes u h v fits (puts frame _ e step) = inr (inl (frame, (fits, step []), ap reverse e ∙ reverse-append u.stack (frame ∷ [])))
  step_goes u h v fits (takes frame _ e step) = inr (inr (frame, (fits, step []), ap reverse e ∙ reverse-append v.stack (frame ∷ [])))

  -- a run of hops that fit, as the system has it
  pub system_run : (u : DataUnit) (hops : List Hop) (v : DataUnit) → AllByRecursion Fits hops → Run T u hops v → SystemRun (hop_system T Fits) (place_of u) (reverse u.stack) hops (place_of v) (reverse v.stack)
  system_run u [] v fits run = (ap place_of (sym run), ap (λ (w : DataUnit). reverse w.stack) (sym run))
  system_run u (h ∷ hops) v fits run =
      (place_of run.0, reverse run.0.stack, step_goes u h run.0 fits.0 (effect T u h run.0 run.1), system_run run.0 hops v fits.1 run.2)

  -- a run of the system, as a run of hops that fit
  pub hop_run : (x : PlaceName) (s : List Frame) (hops : List Hop) (y : PlaceName) (t : List Frame) → SystemRun (hop_system T Fits) x s hops y t → Run T (unit_in x (reverse s)) hops (unit_in y (reverse t)) × AllByRecursion Fits hops
  hop_run x s [] y t run =
      let same : unit_in y (reverse t) ≡ unit_in x (reverse s) = ap (λ z. unit_in z (reverse t)) (sym run.0) ∙ ap (λ v. unit_in x (reverse v)) (sym run.1) in
      (same, tt)
  hop_run x s (h ∷ hops) y t run =
      let step = goes_step x s h run.0 run.1 run.2 in
      let rest = hop_run run.0 run.1 hops y t run.3 in
      ((unit_in run.0 (reverse run.1), step.1, rest.0), (step.0, rest.1))

all_fit : (hops : List Hop) → AllByRecursion (λ h. Unit {0}) hops
all_fit [] = tt
all_fit (h ∷ hops) = (tt, all_fit hops)

-- A run from the empty stack to the empty stack goes over every stack.
pub run_over : (T : Topology) (x y : PlaceName) (hops : List Hop) → Run T (unit_in x []) hops (unit_in y []) → (stack : List Frame) → Run T (unit_in x stack) hops (unit_in y stack)
run_over T x y hops run stack =
    let Fits : Hop → Type 0 = λ h. Unit {0} in
    let under = run_under (hop_system T Fits) hops x [] y [] (reverse stack) (system_run T Fits (unit_in x []) hops (unit_in y []) (all_fit hops) run) in
    let P : List Frame → Type 0 = λ s. Run T (unit_in x s) hops (unit_in y s) in
    subst P (reverse-reverse stack) (hop_run T Fits x (reverse stack) hops y (reverse stack) under).0

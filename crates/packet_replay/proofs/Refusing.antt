-- The refusals exclude one another, and what is refused is no step.
use Rattle.std.proofs.Common.{◌≡◌, ◌≢◌, ◌↔◌, ℕ, Bool, true, false, Result, Ok, Err, refl, sym, ap, subst}
use Rattle.std.specs.Prelude.{IsErrOf}
use Rattle.circuit_spec.specs.declared.hops.Hop.{Hop}
use Rattle.circuit_spec.specs.declared.hops.Unit.{Unit as DataUnit}
use Rattle.circuit_spec.specs.Network.{Topology}
use Rattle.circuit_spec.specs.Steps.{Step}
use Rattle.circuit_spec.proofs.NextUnit.{one_next}
use Rattle.packet_replay.specs.declared.faults.StepFault.{StepFault}
use Rattle.packet_replay.specs.declared.faults.StepFault.TheVariants.{NoHop, Label, Frame as NoFrame, Full, NoMemory}
use Rattle.packet_replay.specs.Conditions.{Fits, FitsFrame, FitsLabels, HasRoom, IsRefused, IsRelated, IsWay, TellsOfSteps, Way, unit_after}
use Rattle.packet_replay.proofs.Stepping.{fitting_steps, one_way, steps_fit}

-- a hop that is not related by its way is not related
pub not_related : (T : Topology) (u : DataUnit) (h : Hop) (way : Way) → IsWay T h way → (b : Bool) → (b ≡ true) ↔ IsRelated T u h way → b ≡ false → (other : Way) → ¬ IsRelated T u h other
not_related T u h way is b tells off other related =
    let yes : b ≡ true = tells.1 (subst (IsRelated T u h) (one_way T h other way related.is_way is) related) in
    absurd (cc)

module _ (T : Topology) (room : ℕ) (u : DataUnit) (h : Hop) where
  -- how far the conditions hold
  abbrev Related : Type 0
  Related = (way : Way) × IsRelated T u h way

  abbrev Labelled : Type 0
  Labelled = (way : Way) × IsRelated T u h way × FitsLabels T u h way

  abbrev Framed : Type 0
  Framed = (way : Way) × Fits T u h way

  abbrev Roomy : Type 0
  Roomy = (way : Way) × Fits T u h way × HasRoom room u h

  related : Labelled → Related
  related l = (l.0, l.1)

  labelled : Framed → Labelled
  labelled f = (f.0, f.1.related, f.1.labels)

  framed : Roomy → Framed
  framed r = (r.0, r.1)

  -- a condition that fails for one way fails for all
  not_labelled : (way : Way) → IsRelated T u h way → ¬ FitsLabels T u h way → ¬ Labelled
  not_labelled way is none l = none (subst (FitsLabels T u h) (one_way T h l.0 way l.1.is_way is.is_way) l.2)

  not_framed : (way : Way) → IsRelated T u h way → ¬ FitsFrame u h way → ¬ Framed
  not_framed way is none f = none (subst (FitsFrame u h) (one_way T h f.0 way f.1.related.is_way is.is_way) f.1.frame)

  not_roomy : ¬ HasRoom room u h → ¬ Roomy
  not_roomy none r = none r.2

  -- what a refusal says
  abbrev Says : StepFault → Type 0
  Says NoHop = ¬ Related
  Says Label = Related × (¬ Labelled)
  Says NoFrame = Labelled × (¬ Framed)
  Says Full = Framed × (¬ Roomy)
  Says NoMemory = Roomy

  says : (fault : StepFault) → IsRefused T room u h fault → Says fault
  says NoHop r = λ x. r x.0 x.1
  says Label r = ((r.0, r.1), not_labelled r.0 r.1 r.2)
  says NoFrame r = ((r.0, r.1, r.2), not_framed r.0 r.1 r.3)
  says Full r = ((r.0, r.1), not_roomy r.2)
  says NoMemory r = r

  one_says : (one other : StepFault) → Says one → Says other → one ≡ other
  one_says NoHop NoHop x y = refl
  one_says NoHop Label x y = absurd (x y.0)
  one_says NoHop NoFrame x y = absurd (x (related y.0))
  one_says NoHop Full x y = absurd (x (related (labelled y.0)))
  one_says NoHop NoMemory x y = absurd (x (related (labelled (framed y))))
  one_says Label NoHop x y = absurd (y x.0)
  one_says Label Label x y = refl
  one_says Label NoFrame x y = absurd (x.1 y.0)
  one_says Label Full x y = absurd (x.1 (labelled y.0))
  one_says Label NoMemory x y = absurd (x.1 (labelled (framed y)))
  one_says NoFrame NoHop x y = absurd (y (related x.0))
  one_says NoFrame Label x y = absurd (y.1 x.0)
  one_says NoFrame NoFrame x y = refl
  one_says NoFrame Full x y = absurd (x.1 y.0)
  one_says NoFrame NoMemory x y = absurd (x.1 (framed y))
  one_says Full NoHop x y = absurd (y (related (labelled x.0)))
  one_says Full Label x y = absurd (y.1 (labelled x.0))
  one_says Full NoFrame x y = absurd (y.1 x.0)
  one_says Full Full x y = refl
  one_says Full NoMemory x y = absurd (x.1 y)
  one_says NoMemory NoHop x y = absurd (y (related (labelled (framed x))))
  one_says NoMemory Label x y = absurd (y.1 (labelled (framed x)))
  one_says NoMemory NoFrame x y = absurd (y.1 (framed x))
  one_says NoMemory Full x y = absurd (y.1 x)
  one_says NoMemory NoMemory x y = refl

  pub one_refusal : (one other : StepFault) → IsRefused T room u h one → IsRefused T room u h other → one ≡ other
  one_refusal one other x y = one_says one other (says one x) (says other y)

  step_framed : (v : DataUnit) → Step T u h v → Framed
  step_framed v s = let f = steps_fit T u h v s in (f.0, f.1)

  framed_step : Framed → (v : DataUnit) × Step T u h v
  framed_step f = (unit_after h f.0 u, fitting_steps T u h f.0 f.1)

  -- whether there is a next unit
  pub refusal_tells : (fault : StepFault) → IsRefused T room u h fault → TellsOfSteps T u h fault
  refusal_tells NoHop r = λ v s. says NoHop r (related (labelled (step_framed v s)))
  refusal_tells Label r = λ v s. (says Label r).1 (labelled (step_framed v s))
  refusal_tells NoFrame r = λ v s. (says NoFrame r).1 (step_framed v s)
  refusal_tells Full r = framed_step (says Full r).0
  refusal_tells NoMemory r = framed_step (framed r)

  -- A call's answer

  -- that the hop is taken, or why it is not
  abbrev pub Answers : Result (Unit {0}) StepFault → Type 0
  Answers (Ok _) = Roomy
  Answers (Err fault) = IsRefused T room u h fault

  -- a refusal comes exactly where its condition is the first that fails
  pub exactly : (fault : StepFault) → fault ≢ NoMemory → (r : Result (Unit {0}) StepFault) → Answers r → IsErrOf r fault ↔ IsRefused T room u h fault
  exactly fault real (Ok x) a = (λ e. absurd (cc), λ c. absurd (real (one_refusal fault NoMemory c a)))
  exactly fault real (Err other) a = (λ e. let same : other ≡ fault = cc in subst (IsRefused T room u h) same a, λ c. ap Err (one_refusal other fault a c))

  pub wanting : (r : Result (Unit {0}) StepFault) → Answers r → IsErrOf r NoMemory → IsRefused T room u h NoMemory
  wanting (Ok x) a e = absurd (cc)
  wanting (Err other) a e = let same : other ≡ NoMemory = cc in subst (IsRefused T room u h) same a

  -- where there is a next unit and room, a refusal is want of memory
  pub next_refused : (fault : StepFault) → IsRefused T room u h fault → (v : DataUnit) → Step T u h v → HasRoom room u h → fault ≡ NoMemory
  next_refused fault r v s has = let f = steps_fit T u h v s in one_refusal fault NoMemory r (f.0, f.1, has)

  -- and the unit that was taken there is the next one
  pub next_taken : (way : Way) → Fits T u h way → (new : DataUnit) → new ≡ unit_after h way u → (v : DataUnit) → Step T u h v → new ≡ v
  next_taken way f new e v s = one_next T u h new v (subst (Step T u h) (sym e) (fitting_steps T u h way f)) s

-- What look-ups of pairs tell.
use Rattle.std.proofs.Common.{◌≡◌, ◌∙◌, List, Some, subst, sym, Contains}
use Rattle.std.specs.Prelude.{Bool, false, IsTrue, ◌↔◌, slice_get}
use Rattle.std.specs.List.{All}
use Rattle.std.proofs.lemmas.List.Elements.{All-contains}
use Rattle.ml_base.specs.declared.numbers.Root.{Root}
use Rattle.ml_base.specs.declared.numbers.Root.TheVariants.{Entry}
use Rattle.ml_base.specs.declared.numbers.StateNo.{StateNo}
use Rattle.ml_base.specs.declared.numbers.StepNo.{StepNo}
use Rattle.ml_base.specs.declared.weight.Weight.{Weight}
use Rattle.ml_base.specs.declared.weight.Weight.TheVariants.{Known}
use Rattle.ml_base.specs.Weight.{IsCappedAtMost, capped_total}
use Rattle.adapt_machine.specs.declared.MachineStep.{MachineStep}
use Rattle.segment_grammar.specs.declared.potentials.Pot.{Pot}
use Rattle.segment_grammar.specs.Pots.{pot}
use Rattle.segment_grammar.proofs.Places.{same_at}
use Rattle.pair_check.specs.Rules.{HasRoot, IsListedAtZero, IsListedRoot, IsListedWithin, step_weight}
use Rattle.pair_check.specs.Exits.{EntersRoot, LeadsOn}
use Rattle.pair_check.proofs.Loops.{never}

module _ (pots : List Pot) (root : Root) (state : StateNo) where
  -- the pair is listed with the weight
  module _ (w : Weight) (found : Contains pots (pot root state w)) (only : (v : Weight) → Contains pots (pot root state v) → v ≡ w) (b : Bool) where
    pub within_most : (most : Weight) → IsTrue b ↔ IsCappedAtMost w most → IsTrue b ↔ IsListedWithin pots root state most
    within_most most e = (λ t. (w, found, e.0 t), λ l. e.1 (subst (λ v. IsCappedAtMost v most) (only l.0 l.1) l.2))

    pub at_zero : (zero : Weight) → zero ≡ Known 0 0 → IsTrue b ↔ (w ≡ zero) → IsTrue b ↔ IsListedAtZero pots root state
    at_zero zero z e = (λ t. subst (λ v. Contains pots (pot root state v)) (e.0 t ∙ z) found, λ l. e.1 (sym (only (Known 0 0) l) ∙ sym z))

  -- the pair is not listed
  module _ (none : (v : Weight) → ¬ Contains pots (pot root state v)) where
    pub not_within : (most : Weight) → IsTrue false ↔ IsListedWithin pots root state most
    not_within most = never (λ l. none l.0 l.1)

    pub not_at_zero : IsTrue false ↔ IsListedAtZero pots root state
    not_at_zero = never (λ l. none (Known 0 0) l)

-- The end of a step

module _ (steps : List MachineStep) (pots : List Pot) (k : StepNo) (taken : MachineStep) (found : slice_get steps k.0 ≡ Some taken) (b : Bool) where
  pub leads : (root : Root) (weight most : Weight) → most ≡ capped_total weight (step_weight taken)
      → IsTrue b ↔ IsListedWithin pots root taken.to most → IsTrue b ↔ LeadsOn steps pots root weight k
  leads root weight most same e = (
    λ yes t at.
        let one : taken ≡ t = same_at steps k.0 taken t found at in
        subst (λ (u : MachineStep). IsListedWithin pots root u.to (capped_total weight (step_weight u))) one (subst (λ w. IsListedWithin pots root taken.to w) same (e.0 yes)),
    λ on. e.1 (subst (λ w. IsListedWithin pots root taken.to w) (sym same) (on taken found)),
  )

  listed_root : All (HasRoot pots) pots → (x : StateNo) → IsListedRoot pots x → IsListedAtZero pots (Entry x) x
  listed_root roots x l = All-contains (HasRoot pots) pots (pot (Entry x) l.0 l.1) roots l.2

  pub enters : All (HasRoot pots) pots → IsTrue b ↔ IsListedAtZero pots (Entry taken.to) taken.to → IsTrue b ↔ EntersRoot steps pots k
  enters roots e = (
    λ yes t at.
        let one : taken ≡ t = same_at steps k.0 taken t found at in
        subst (λ (u : MachineStep). IsListedRoot pots u.to) one (taken.to, Known 0 0, e.0 yes),
    λ on. e.1 (listed_root roots taken.to (on taken found)),
  )

-- A push nests where each exit of what it enters leads on.
use Rattle.std.proofs.Common.{◌≡◌, ◌<◌, List, Some, length, subst, sym, refl, Contains}
use Rattle.std.specs.Prelude.{Bool, IsTrue, ◌↔◌, slice_get}
use Rattle.std.specs.List.{All}
use Rattle.std.proofs.lemmas.List.Elements.{All-contains, All-contains_itself, All-weaker}
use Rattle.ml_base.specs.declared.numbers.StepNo.{StepNo}
use Rattle.ml_base.specs.declared.weight.Weight.{Weight}
use Rattle.ml_base.specs.Weight.{capped_total}
use Rattle.adapt_machine.specs.declared.MachineStep.{MachineStep}
use Rattle.segment_grammar.specs.declared.potentials.Pot.{Pot}
use Rattle.segment_grammar.specs.Index.{step_no}
use Rattle.segment_grammar.specs.Pots.{pot}
use Rattle.segment_grammar.proofs.Places.{at_contains, contains_at, same_at, slice_get-below}
use Rattle.pair_check.specs.declared.exits.Exit.{Exit}
use Rattle.pair_check.specs.Exits.{AreExitsFrom, LeadsOut, NestsBy, exit_of}
use Rattle.pair_check.specs.Rules.{IsListedWithin, IsNestedBy, step_weight}

module _ (steps : List MachineStep) (pots : List Pot) (t : MachineStep) (exits : List Exit) (are : AreExitsFrom steps pots t.to t.frame exits) where
  -- the pops of exits are steps
  pub exits_below : All (λ (e : Exit). e.pop.0 < length steps) exits
  exits_below = All-weaker (Contains exits) (λ (e : Exit). e.pop.0 < length steps)
      (λ e c. let is = (are e).0 c in slice_get-below steps e.pop.0 is.3.pop is.3.at) exits (All-contains_itself exits)

  module _ (p : Pot) where
    of_exits : All (LeadsOut steps pots p.root (capped_total p.weight (step_weight t))) exits → IsNestedBy steps pots p t
    of_exits all z inner listed u taken pops =
        let at = at_contains steps u taken in
        let exit : Exit = exit_of inner (step_no at.0) in
        let has : Contains exits exit = (are exit).1 (pot _ z inner, listed, refl, record { inner = refl; pop = u; at = at.2; pops = pops }) in
        All-contains (LeadsOut steps pots p.root (capped_total p.weight (step_weight t))) exits exit all has u at.2

    out : IsNestedBy steps pots p t → (e : Exit) → Contains exits e → LeadsOut steps pots p.root (capped_total p.weight (step_weight t)) e
    out nested e c u at =
        let is = (are e).0 c in
        let listed = subst (λ r. Contains pots (pot r is.0.state is.0.weight)) is.2 is.1 in
        let same : is.3.pop ≡ u = same_at steps e.pop.0 is.3.pop u is.3.at at in
        let leads = nested is.0.state is.0.weight listed is.3.pop (contains_at steps e.pop.0 is.3.pop is.3.at) is.3.pops in
        subst (λ (v : MachineStep). IsListedWithin pots p.root v.to (capped_total (capped_total (capped_total p.weight (step_weight t)) e.inner) (step_weight v))) same
        (subst (λ w. IsListedWithin pots p.root is.3.pop.to (capped_total (capped_total (capped_total p.weight (step_weight t)) w) (step_weight is.3.pop))) (sym is.3.inner) leads)

    to_exits : IsNestedBy steps pots p t → All (LeadsOut steps pots p.root (capped_total p.weight (step_weight t))) exits
    to_exits nested = All-weaker (Contains exits) (LeadsOut steps pots p.root (capped_total p.weight (step_weight t))) (out nested) exits (All-contains_itself exits)

    -- a test of the exits is one of the push
    pub nest_tested : (k : StepNo) → slice_get steps k.0 ≡ Some t → (b : Bool) (w : Weight) → w ≡ capped_total p.weight (step_weight t)
        → IsTrue b ↔ All (LeadsOut steps pots p.root w) exits → IsTrue b ↔ NestsBy steps pots p k
    nest_tested k found b w same e = (
      λ yes u at.
          let one : t ≡ u = same_at steps k.0 t u found at in
          subst (λ v. IsNestedBy steps pots p v) one (of_exits (subst (λ v. All (LeadsOut steps pots p.root v) exits) same (e.0 yes))),
      λ nests. e.1 (subst (λ v. All (LeadsOut steps pots p.root v) exits) (sym same) (to_exits (nests t found))),
    )

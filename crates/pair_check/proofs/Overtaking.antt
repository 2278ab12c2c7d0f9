-- A push that need not be looked up, since an earlier pair pushes the same way at no more.
use Rattle.std.proofs.Common.{◌≡◌, ◌∙◌, ℕ, zero, suc, ◌<◌, List, [], ◌∷◌, Some, take, subst, sym, refl, arith, Contains}
use Rattle.std.specs.Prelude.{true, IsTrue, ◌↔◌, slice_get}
use Rattle.std.specs.List.{All}
use Rattle.std.proofs.lemmas.List.Elements.{All-contains}
use Rattle.ml_base.specs.declared.numbers.Root.TheVariants.{Entry}
use Rattle.ml_base.specs.declared.numbers.StepNo.{StepNo}
use Rattle.ml_base.specs.declared.weight.Weight.{Weight}
use Rattle.ml_base.specs.Weight.{IsCappedAtMost, capped_total}
use Rattle.ml_base.proofs.Laws.{at_most-same, at_most-trans, capped_total-at_most}
use Rattle.adapt_machine.specs.declared.MachineStep.{MachineStep}
use Rattle.segment_grammar.specs.declared.potentials.Pot.{Pot}
use Rattle.segment_grammar.specs.Index.{IsPopAt}
use Rattle.segment_grammar.specs.Pots.{pot}
use Rattle.segment_grammar.proofs.Places.{contains_at, same_at}
use Rattle.pair_check.specs.Exits.{NestsBy}
use Rattle.pair_check.specs.Overtaken.{IsOvertaken, weight_by}
use Rattle.pair_check.specs.Rules.{IsListedWithin, IsNested, IsNestedBy, step_weight}

-- what stands before a place is among the first
first_at : {X : Type 0} (xs : List X) (i n : ℕ) → i < n → slice_get (take n xs) i ≡ slice_get xs i
first_at xs i zero low = absurd (omega arith)
first_at [] i (suc n) low = refl
first_at (a ∷ xs) zero (suc n) low = refl
first_at (a ∷ xs) (suc i) (suc n) low = first_at xs i n (omega arith)

among_first : {X : Type 0} (xs : List X) (i n : ℕ) (x : X) → i < n → slice_get xs i ≡ Some x → Contains (take n xs) x
among_first xs i n x low found = contains_at (take n xs) i x (first_at xs i n low ∙ found)

-- the weight of a nest, by what it weighs up to the push
abbrev nest_weight : Weight → Weight → MachineStep → Weight
nest_weight pushed inner u = capped_total (capped_total pushed inner) (step_weight u)

nest_at_most : (w v inner : Weight) (u : MachineStep) → IsCappedAtMost w v → IsCappedAtMost (nest_weight w inner u) (nest_weight v inner u)
nest_at_most w v inner u less =
    capped_total-at_most (capped_total w inner) (capped_total v inner) (step_weight u) (step_weight u)
    (capped_total-at_most w v inner inner less (at_most-same inner)) (at_most-same (step_weight u))

module _ (steps : List MachineStep) (pots : List Pot) (place : ℕ) (p : Pot) (t : MachineStep) (over : IsOvertaken steps pots place p t)
    (before : All (IsNested steps pots) (take place pots)) where
  earlier : IsNestedBy steps pots over.pair over.push
  earlier = All-contains (IsNested steps pots) (take place pots) over.pair before (among_first pots over.number place over.pair over.early over.found)
      over.push (contains_at steps over.way.0 over.push over.push_found) (over.same.is_push, over.same.from)

  nested : IsNestedBy steps pots p t
  nested z inner listed u taken pops =
      let entered : Contains pots (pot (Entry over.push.to) z inner) = subst (λ x. Contains pots (pot (Entry x) z inner)) (sym over.same.to) listed in
      let popped : IsPopAt z over.push.frame u = subst (λ f. IsPopAt z f u) (sym over.same.frame) pops in
      let is : IsListedWithin pots over.pair.root u.to (nest_weight (weight_by over.pair over.push) inner u) = earlier z inner entered u taken popped in
      subst (λ r. IsListedWithin pots r u.to (nest_weight (weight_by p t) inner u)) over.same.root (
        is.0,
        is.1,
        at_most-trans is.0 (nest_weight (weight_by over.pair over.push) inner u) (nest_weight (weight_by p t) inner u) is.2
            (nest_at_most (weight_by over.pair over.push) (weight_by p t) inner u over.same.at_most),
      )

  -- the test of the push may say yes
  pub overtaken_tested : (k : StepNo) → slice_get steps k.0 ≡ Some t → IsTrue true ↔ NestsBy steps pots p k
  overtaken_tested k found = (
    λ yes u at. (let one : t ≡ u = same_at steps k.0 t u found at in subst (λ v. IsNestedBy steps pots p v) one nested),
    λ nests. refl,
  )

-- The derivation of a pair, and the lightest of some targets.
use Rattle.std.proofs.Common.{◌≡◌, ℕ, ◌≤◌, List, [], ◌∷◌, ◌++◌, length, refl, sym, subst, inl, inr, arith, Bor, IfSome, Contains, Some, None, Option, slice_get}
use Rattle.std.proofs.lemmas.List.{length-map}
use Rattle.std.proofs.lemmas.List.Elements.{Contains-push, Contains-push_cases, Contains-append_left}
use Rattle.ml_base.specs.declared.numbers.StateNo.{StateNo}
use Rattle.ml_base.specs.declared.numbers.Root.{Root}
use Rattle.ml_base.specs.declared.numbers.Root.TheVariants.{Request}
use Rattle.ml_base.specs.declared.weight.Weight.{Weight}
use Rattle.ml_base.specs.Weight.{IsCappedAtMost}
use Rattle.ml_base.proofs.Laws.{at_most-trans}
use Rattle.adapt_machine.specs.declared.MachineStep.{MachineStep}
use Rattle.adapt_machine.specs.Machine.{MachineValue}
use Rattle.adapt_machine.specs.Walks.{weight_of}
use Rattle.segment_grammar.specs.declared.potentials.Pot.{Pot}
use Rattle.segment_grammar.specs.Pots.{pot, IsOfPair}
use Rattle.segment_grammar.specs.Reached.{IsSegmentUnder, IsReached, IsLeast}
use Rattle.segment_grammar.proofs.Places.{slice_get-below}
use Rattle.deriv_arena.specs.declared.Deriv.{Deriv}
use Rattle.deriv_arena.specs.Derivation.{kept_weight}
use Rattle.knuth_search.specs.declared.settled.Settled.{Settled}
use Rattle.knuth_search.specs.Settled.{potentials_of, derivs_of, IsCheapest, IsSettledOf, IsBest, IsLightest, IsLightestOf}

-- ---- the derivation at a place

pub cheapest_at : (m : MachineValue) (starts : List StateNo) (s : Settled) → IsSettledOf m starts s → (root : Root) (state : StateNo) (i : ℕ)
    → (p : Pot) × (slice_get (potentials_of s) i ≡ Some p) × IsOfPair p root state → (d : Deriv) → slice_get (derivs_of s) i ≡ Some d → IsCheapest m.steps starts root state d
cheapest_at m starts s is root state i found d at =
    subst (λ r. IsCheapest m.steps starts r state d) found.2.0 (subst (λ y. IsCheapest m.steps starts found.0.root y d) found.2.1 (is.derived i found.0 d found.1 at))

-- a pair that is not listed is not reached
pub none_listed : (m : MachineValue) (starts : List StateNo) (s : Settled) → IsSettledOf m starts s → (root : Root) (state : StateNo)
    → ((p : Pot) → Contains (potentials_of s) p → IsOfPair p root state → ⊥) → IsReached m.steps starts root state → ⊥
none_listed m starts s is root state none reached =
    let h : (w : Weight) × Contains (potentials_of s) (pot root state w) = is.potentials.all root state reached in
    none (pot root state h.0) h.1 (refl, refl)

-- a listed place has a derivation
pub never_missing : (m : MachineValue) (starts : List StateNo) (s : Settled) → IsSettledOf m starts s → (root : Root) (state : StateNo) (i : ℕ)
    → (p : Pot) × (slice_get (potentials_of s) i ≡ Some p) × IsOfPair p root state → length s.derivs.items ≤ i → ⊥
never_missing m starts s is root state i found short = omega (arith, is.rooms, length-map s.derivs.items (λ d. d.now), slice_get-below (potentials_of s) i found.0 found.1)

-- ---- the lightest

module _ (steps : List MachineStep) (starts seen : List StateNo) (target : StateNo) where
  abbrev more : List StateNo
  more = seen ++ target ∷ []

  -- the target is not reached
  pub lightest_same : (best : Option Pot) → (IsReached steps starts Request target → ⊥) → IsLightestOf steps starts seen best → IsLightestOf steps starts more best
  lightest_same None none is = λ other c reached. elim (Contains-push_cases seen target other c) as (λ v. ⊥) [ inl x ↦ is other x reached | inr e ↦ none (subst (λ y. IsReached steps starts Request y) (sym e) reached) ]
  lightest_same (Some p) none is = record {
    listed = Contains-append_left seen (target ∷ []) p.state is.listed;
    is_least = is.is_least;
    least = λ other ks c s. elim (Contains-push_cases seen target other c) as (λ v. IsCappedAtMost p.weight (weight_of steps ks)) [
      | inl x ↦ is.least other ks x s
      | inr e ↦ absurd (none (ks, subst (λ y. IsSegmentUnder steps starts Request ks y) (sym e) s))
    ];
  }

  module _ (w : Weight) (least : IsLeast steps starts Request target w) where
    at_target : (u : Weight) → IsCappedAtMost u w → (other : StateNo) (ks : List ℕ) → target ≡ other → IsSegmentUnder steps starts Request ks other → IsCappedAtMost u (weight_of steps ks)
    at_target u lower other ks e s = at_most-trans u w (weight_of steps ks) lower (least.least ks (subst (λ y. IsSegmentUnder steps starts Request ks y) (sym e) s))

    -- none of the others is reached, or all weigh no less
    pub lightest_next : ((other : StateNo) (ks : List ℕ) → Contains seen other → IsSegmentUnder steps starts Request ks other → IsCappedAtMost w (weight_of steps ks)) → IsCappedAtMost w w
        → IsLightest steps starts more (pot Request target w)
    lightest_next others same = record {
      listed = Contains-push seen target;
      is_least = least;
      least = λ other ks c s. elim (Contains-push_cases seen target other c) as (λ v. IsCappedAtMost w (weight_of steps ks)) [ inl x ↦ others other ks x s | inr e ↦ at_target w same other ks e s ];
    }

    -- the best so far is no heavier
    pub lightest_kept : (p : Pot) → IsCappedAtMost p.weight w → IsLightest steps starts seen p → IsLightest steps starts more p
    lightest_kept p lower is = record {
      listed = Contains-append_left seen (target ∷ []) p.state is.listed;
      is_least = is.is_least;
      least = λ other ks c s. elim (Contains-push_cases seen target other c) as (λ v. IsCappedAtMost p.weight (weight_of steps ks)) [ inl x ↦ is.least other ks x s | inr e ↦ at_target p.weight lower other ks e s ];
    }

-- ---- the best derivation

pub best_of : (steps : List MachineStep) (starts targets : List StateNo) (p : Pot) (d : Deriv) → IsLightest steps starts targets p → IsCheapest steps starts Request p.state d → IsBest steps starts targets d
best_of steps starts targets p d is cheapest = record {
  target = p.state;
  listed = is.listed;
  cheapest = cheapest;
  least = λ other ks c s. at_most-trans (kept_weight d) p.weight (weight_of steps ks) lower (is.least other ks c s);
}
  where
    lower : IsCappedAtMost (kept_weight d) p.weight
    lower = subst (λ w. IsCappedAtMost (kept_weight d) w) is.is_least.weight (cheapest.least.least is.is_least.segment is.is_least.is_segment)

pub best_found : (targets : List StateNo) (s : Settled) (p : Pot) (found : Option (Bor Deriv)) → ((m : MachineValue) (starts : List StateNo) → IsSettledOf m starts s → IsLightest m.steps starts targets p)
    → IfSome found (λ d. (m : MachineValue) (starts : List StateNo) → IsSettledOf m starts s → IsCheapest m.steps starts Request p.state d.now)
    → IfSome found (λ d. (m : MachineValue) (starts : List StateNo) → IsSettledOf m starts s → IsBest m.steps starts targets d.now)
best_found targets s p None lightest cheapest = cheapest
best_found targets s p (Some d) lightest cheapest = λ m starts is. best_of m.steps starts targets p d.now (lightest m starts is) (cheapest m starts is)

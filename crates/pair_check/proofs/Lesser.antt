-- The least of the weights that are listed at some states, as one state more counts.
use Rattle.std.proofs.Common.{◌≡◌, ◌<◌, ◌≤◌, ◌⊎◌, List, [], ◌∷◌, ◌++◌, None, Some, Option, subst, sym, inl, inr, arith, Contains}
use Rattle.std.proofs.lemmas.Bool.{cases_lt}
use Rattle.std.proofs.lemmas.List.Elements.{Contains-append_left, Contains-push, Contains-push_cases}
use Rattle.ml_base.specs.declared.numbers.Root.TheVariants.{Request}
use Rattle.ml_base.specs.declared.numbers.StateNo.{StateNo}
use Rattle.ml_base.specs.declared.weight.Weight.{Weight}
use Rattle.ml_base.specs.declared.weight.Weight.TheVariants.{Known, Past}
use Rattle.ml_base.specs.Weight.{IsCappedAtMost}
use Rattle.ml_base.proofs.Laws.{at_most-same, at_most-trans}
use Rattle.segment_grammar.specs.declared.potentials.Pot.{Pot}
use Rattle.segment_grammar.specs.Pots.{pot}
use Rattle.pair_check.specs.Least.{IsLeastAt, IsLeastOf, IsLesserOf, NoneIsListed}

pub at_most-total : (u v : Weight) → ¬ IsCappedAtMost u v → IsCappedAtMost v u
at_most-total (Known a h) (Known b k) n = go (cases_lt b a) (cases_lt a b) (cases_lt k h)
  where
    go : (b < a) ⊎ (a ≤ b) → (a < b) ⊎ (b ≤ a) → (k < h) ⊎ (h ≤ k) → (b < a) ⊎ ((b ≡ a) × (k ≤ h))
    go (inl p) y z = inl p
    go (inr p) (inl q) z = absurd (n (inl q))
    go (inr p) (inr q) (inl s) = inr (omega arith, omega arith)
    go (inr p) (inr q) (inr s) = absurd (n (inr (omega arith, s)))
at_most-total (Known a h) Past n = absurd (n tt)
at_most-total Past (Known b k) n = tt
at_most-total Past Past n = tt

module _ (pots : List Pot) (before : List StateNo) (state : StateNo) where
  cases : (x : StateNo) → Contains (before ++ state ∷ []) x → Contains before x ⊎ (state ≡ x)
  cases x c = Contains-push_cases before state x c

  -- the state is not listed
  module _ (none : (w : Weight) → ¬ Contains pots (pot Request state w)) where
    still_none : NoneIsListed before pots → NoneIsListed (before ++ state ∷ []) pots
    still_none not x w c listed = go (cases x c)
      where
        go : Contains before x ⊎ (state ≡ x) → ⊥
        go (inl b) = not x w b listed
        go (inr e) = none w (subst (λ s. Contains pots (pot Request s w)) (sym e) listed)

    still_least : (w : Weight) → IsLeastAt before pots w → IsLeastAt (before ++ state ∷ []) pots w
    still_least w is = record {
      state = is.state;
      among = Contains-append_left before (state ∷ []) is.state is.among;
      listed = is.listed;
      least = λ x v c listed. elim (cases x c) as (λ s. IsCappedAtMost w v) [
        | inl b ↦ is.least x v b listed
        | inr e ↦ absurd (none v (subst (λ s. Contains pots (pot Request s v)) (sym e) listed))
      ];
    }

    pub unlisted_more : (least : Option Weight) → IsLeastOf before pots least → IsLeastOf (before ++ state ∷ []) pots least
    unlisted_more None is = still_none is
    unlisted_more (Some w) is = still_least w is

  -- the state is listed with the weight
  module _ (weight : Weight) (found : Contains pots (pot Request state weight)) (only : (v : Weight) → Contains pots (pot Request state v) → v ≡ weight) where
    at_state : (w v : Weight) (x : StateNo) → IsCappedAtMost w weight → state ≡ x → Contains pots (pot Request x v) → IsCappedAtMost w v
    at_state w v x most e listed = subst (λ u. IsCappedAtMost w u) (sym (only v (subst (λ s. Contains pots (pot Request s v)) (sym e) listed))) most

    first : NoneIsListed before pots → IsLeastAt (before ++ state ∷ []) pots weight
    first not = record {
      state = state;
      among = Contains-push before state;
      listed = found;
      least = λ x v c listed. elim (cases x c) as (λ s. IsCappedAtMost weight v) [
        | inl b ↦ absurd (not x v b listed)
        | inr e ↦ at_state weight v x (at_most-same weight) e listed
      ];
    }

    next_least : (so_far lesser : Weight) → IsLeastAt before pots so_far → IsCappedAtMost lesser so_far → IsCappedAtMost lesser weight
        → (x : StateNo) (v : Weight) → Contains (before ++ state ∷ []) x
        → Contains pots (pot Request x v) → IsCappedAtMost lesser v
    next_least so_far lesser is old new x v c listed = elim (cases x c) as (λ s. IsCappedAtMost lesser v) [
      | inl b ↦ at_most-trans lesser so_far v old (is.least x v b listed)
      | inr e ↦ at_state lesser v x new e listed
    ]

    next : (so_far lesser : Weight) → IsLeastAt before pots so_far → IsLesserOf (Some so_far) weight lesser → IsLeastAt (before ++ state ∷ []) pots lesser
    next so_far lesser is l = go l.2
      where
        go : (lesser ≡ so_far) ⊎ (lesser ≡ weight) → IsLeastAt (before ++ state ∷ []) pots lesser
        go (inl e) = record {
          state = is.state;
          among = Contains-append_left before (state ∷ []) is.state is.among;
          listed = subst (λ u. Contains pots (pot Request is.state u)) (sym e) is.listed;
          least = next_least so_far lesser is l.0 l.1;
        }
        go (inr e) = record {
          state = state;
          among = Contains-push before state;
          listed = subst (λ u. Contains pots (pot Request state u)) (sym e) found;
          least = next_least so_far lesser is l.0 l.1;
        }

    pub listed_more : (least : Option Weight) (lesser : Weight) → IsLesserOf least weight lesser → IsLeastOf before pots least → IsLeastOf (before ++ state ∷ []) pots (Some lesser)
    listed_more None lesser l is = subst (λ w. IsLeastAt (before ++ state ∷ []) pots w) (sym l) (first is)
    listed_more (Some so_far) lesser l is = next so_far lesser is l

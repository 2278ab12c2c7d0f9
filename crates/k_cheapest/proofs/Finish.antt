-- Why no more walks are listed, from what is listed and what waits.
use Rattle.std.proofs.Common.{◌≡◌, ℕ, ◌<◌, ◌≤◌, List, [], length, ◌∙◌, ap, subst, inl, inr, arith, Contains}
use Rattle.ml_base.specs.declared.numbers.StateNo.{StateNo}
use Rattle.ml_base.specs.declared.weight.Weight.TheVariants.{Known, Past}
use Rattle.ml_base.specs.Weight.{IsCappedAtMost}
use Rattle.ml_base.proofs.Laws.{at_most-trans}
use Rattle.adapt_machine.specs.declared.MachineStep.{MachineStep}
use Rattle.adapt_machine.specs.Walks.{weight_of}
use Rattle.k_cheapest.specs.declared.found.KWalk.{KWalk}
use Rattle.ml_base.specs.declared.ends.KEnd.{KEnd}
use Rattle.ml_base.specs.declared.ends.KEnd.TheVariants as ends
use Rattle.k_cheapest.specs.declared.item.Item.{Item}
use Rattle.k_cheapest.specs.KLists.{IsListable, IsOther, IsEnd, IsKList, numbers_of}
use Rattle.k_cheapest.specs.Items.{Has, IsCovered, Takes}
use Rattle.k_cheapest.specs.Searching.{IsSearching}
use Rattle.k_cheapest.proofs.Heads.{none_in}
use Rattle.k_cheapest.proofs.Leasts.{LeastOf, item_least}
use Rattle.k_cheapest.proofs.Capping.{costs_less, past_costs, steps_light}

module _ (steps : List MachineStep) (starts targets : List StateNo) (limit : ℕ) where
  module _ (walks : List KWalk) (waiting : List Item) (is : IsSearching steps starts targets limit walks waiting) where
    waits : (ks : List ℕ) → IsOther steps starts targets walks ks → IsCovered steps starts waiting ks
    waits ks other = elim (is.covered ks other.is_walk) [ inl l ↦ absurd (other.unlisted l) | inr v ↦ v ]

    heavier : (ks : List ℕ) → IsOther steps starts targets walks ks → (w : KWalk) → Contains walks w → IsCappedAtMost w.weight (weight_of steps ks)
    heavier ks other w c =
        let v : IsCovered steps starts waiting ks = waits ks other in
        let l : LeastOf steps (Has steps starts v.0) v.0.weight = item_least steps starts v.0 (is.items v.0 v.1) in
        at_most-trans w.weight v.0.weight (weight_of steps ks) (is.above v.0 v.1 w c) (l.least ks v.2)

    -- what is listed is as it is asked for, if the end is
    pub ended : (k : ℕ) (end : KEnd) → length walks ≤ k → IsEnd steps starts targets k limit walks end → IsKList steps starts targets k limit walks end
    ended k end few is_end = record {
      few = few;
      listable = is.listed.listable;
      once = is.listed.once;
      rising = is.listed.rising;
      least = heavier;
      is_end = is_end;
    }

    -- nothing waits
    pub none_other : waiting ≡ [] → (ks : List ℕ) → IsOther steps starts targets walks ks → ⊥
    none_other e ks other =
        let v : IsCovered steps starts waiting ks = waits ks other in
        none_in v.0 (subst (λ l. Contains l v.0) e v.1)

    module _ (i : Item) (rest : List Item) (takes : Takes waiting i rest) where
      least_of : LeastOf steps (Has steps starts i) i.weight
      least_of = item_least steps starts i (is.items i takes.waited)

      -- no other is lighter than what is lightest of what waits
      least_other : (ks : List ℕ) → IsOther steps starts targets walks ks → IsCappedAtMost i.weight (weight_of steps ks)
      least_other ks other =
          let v : IsCovered steps starts waiting ks = waits ks other in
          let l : LeastOf steps (Has steps starts v.0) v.0.weight = item_least steps starts v.0 (is.items v.0 v.1) in
          at_most-trans i.weight v.0.weight (weight_of steps ks) (takes.least v.0 v.1) (l.least ks v.2)

      -- it is another, where no listed walk has its weight
      other_by : ((w : KWalk) → IsListable steps starts targets limit w → weight_of steps (numbers_of w.steps) ≡ i.weight → ⊥) → IsOther steps starts targets walks least_of.lightest
      other_by apart = record {
        is_walk = is.sound i takes.waited least_of.lightest least_of.is;
        unlisted = λ l. apart l.0 (is.listed.listable l.0 l.1) (ap (λ v. weight_of steps v) l.2 ∙ least_of.weight);
      }

      not_past : i.weight ≡ Past → (w : KWalk) → IsListable steps starts targets limit w → weight_of steps (numbers_of w.steps) ≡ i.weight → ⊥
      not_past past w l e =
          let known = costs_less steps (numbers_of w.steps) l.cost in
          cc

      -- the others cost too much
      pub ends_past : (k : ℕ) → length walks < k → i.weight ≡ Past → IsEnd steps starts targets k limit walks ends.Past
      ends_past k fewer past = (
        fewer,
        (least_of.lightest, other_by (not_past past)),
        λ ks other. past_costs steps ks (subst (λ v. IsCappedAtMost v (weight_of steps ks)) past (least_other ks other)),
      )

      -- the lightest of the others is too long
      pub ends_long : (k cost hops : ℕ) → length walks < k → i.weight ≡ Known cost hops → limit < hops → IsEnd steps starts targets k limit walks (ends.Long cost hops)
      ends_long k cost hops fewer known over = (
        fewer,
        record {
          lightest = least_of.lightest;
          other = other_by (λ w l e. (let within : hops ≤ limit = steps_light steps (numbers_of w.steps) cost hops limit (e ∙ known) l.hops in omega arith));
          weight = least_of.weight ∙ known;
          least = λ ks other. subst (λ v. IsCappedAtMost v (weight_of steps ks)) known (least_other ks other);
          over = over;
        },
      )

-- A push that need not be followed, since an earlier pair led the same way at no more.
use Rattle.std.proofs.Common.{◌≡◌, ℕ, ◌+◌, ◌<◌, ◌⊎◌, List, length, refl, sym, ◌∙◌, ap, subst, inl, inr, arith, Contains, Some, slice_get}
use Rattle.std.proofs.lemmas.Grind.{common_steps}
use Rattle.ml_base.specs.declared.numbers.StepNo.{StepNo}
use Rattle.ml_base.specs.declared.numbers.Root.TheVariants.{Entry}
use Rattle.ml_base.specs.declared.weight.Weight.{Weight}
use Rattle.ml_base.specs.Weight.{cap, capped_total, IsCappedAtMost}
use Rattle.ml_base.proofs.Laws.{capped_total-at_most, at_most-same, at_most-trans}
use Rattle.adapt_machine.specs.declared.MachineStep.{MachineStep}
use Rattle.segment_grammar.specs.declared.potentials.Pot.{Pot}
use Rattle.segment_grammar.specs.Pots.{pot}
use Rattle.segment_grammar.specs.Index.{IsPushFrom, IsPopAt}
use Rattle.segment_grammar.proofs.Places.{same_at, contains_at, pushed_at}
use Rattle.knuth_search.specs.Following.{stepped, IsStepOf, NestedBy, Closes, Fills, SomePot, IsOffered, Offers}
use Rattle.knuth_search.specs.Offered.{offered_at}
use Rattle.knuth_search.specs.Overtaken.{IsOvertaken, AreNested, IsClosedBefore}
use Rattle.knuth_search.specs.Tables.{Queued}
use Rattle.knuth_search.proofs.Turning.{only_there}

-- what follows was offered before
pub offers_done : (R : Pot → Type 0) (old : Queued) → ((p : Pot) → R p → IsOffered old p) → Offers R old old
offers_done R old done = record { kept = λ p h. h; waits = λ p h. h; held = λ p h. inl h; all = done }

pub nested_kept : (steps : List MachineStep) (table : List Pot) (R : Pot → Type 0) (old now : Queued) → Offers R old now → AreNested steps table old → AreNested steps table now
nested_kept steps table R old now offers nested number v early found k p s = offers.kept p (nested number v early found k p s)

-- what the pair would give was offered at no more
pub overtaken_offered : (steps : List MachineStep) (table : List Pot) (queue : Queued) (prev : Pot) (k : StepNo) (pushed : MachineStep) → slice_get steps k.0 ≡ Some pushed → IsOvertaken steps table prev pushed
    → AreNested steps table queue → (p : Pot) → SomePot table (λ inner p. Closes steps prev k inner p) p → IsOffered queue p
overtaken_offered steps table queue prev k pushed found over nested p s =
    let l : StepNo = s.gives.number in
    let n : NestedBy steps prev k s.item l p = s.gives.gives in
    let u : MachineStep = n.meets.pop.step in
    let same : n.meets.enters.push.step ≡ pushed = same_at steps k.0 n.meets.enters.push.step pushed n.meets.enters.push.found found in
    let push : IsStepOf steps (IsPushFrom over.pair.state) over.way = record { step = over.push; found = over.push_found; passes = (over.same.is_push, over.same.from) } in
    let under : s.item.root ≡ Entry over.push.to = n.meets.enters.under ∙ ap (λ t. Entry t.to) same ∙ ap (λ x. Entry x) (sym over.same.to) in
    let pop : IsStepOf steps (IsPopAt s.item.state over.push.frame) l =
    record { step = u; found = n.meets.pop.found; passes = (n.meets.pop.passes.0, n.meets.pop.passes.1, n.meets.pop.passes.2 ∙ ap (λ t. t.frame) same ∙ sym over.same.frame) } in
    let w : Weight = stepped (capped_total (stepped over.pair.weight over.push) s.item.weight) u in
    let nest : NestedBy steps over.pair over.way s.item l (pot over.pair.root u.to w) = record { meets = record { enters = record { push = push; under = under }; pop = pop }; is = refl } in
    let o : IsOffered queue (pot over.pair.root u.to w) =
    nested over.number over.pair over.early over.found over.way (pot over.pair.root u.to w) (record { item = s.item; listed = s.listed; gives = record { number = l; gives = nest } }) in
    let lower : IsCappedAtMost w (stepped (capped_total (stepped prev.weight pushed) s.item.weight) u) =
    capped_total-at_most (capped_total (stepped over.pair.weight over.push) s.item.weight) (capped_total (stepped prev.weight pushed) s.item.weight) (cap (record { cost = u.cost; hops = 1 })) (cap (record { cost = u.cost; hops = 1 }))
    (capped_total-at_most (stepped over.pair.weight over.push) (stepped prev.weight pushed) s.item.weight s.item.weight over.same.at_most (at_most-same s.item.weight))
    (at_most-same (cap (record { cost = u.cost; hops = 1 }))) in
    let is : p ≡ pot prev.root u.to (stepped (capped_total (stepped prev.weight pushed) s.item.weight) u) =
    n.is ∙ ap (λ t. pot prev.root u.to (stepped (capped_total (stepped prev.weight t) s.item.weight) u)) same in
    subst (λ v. IsOffered queue v) (sym is) (record {
      weight = o.weight;
      found = subst (λ r. offered_at queue.offered r u.to ≡ Some o.weight) over.same.root o.found;
      at_most = at_most-trans o.weight w (stepped (capped_total (stepped prev.weight pushed) s.item.weight) u) o.at_most lower;
    })

-- once the last pair was offered as an inner part, all nests of the earlier pairs were
module _ (steps : List MachineStep) (table : List Pot) (next : Pot) (old now : Queued) (before : IsClosedBefore steps table next old) (offers : Offers (λ p. Fills steps table next p) old now) where
  earlier_at : (number : ℕ) (v : Pot) → number + 1 < length table → slice_get table number ≡ Some v → Contains before.earlier v
  earlier_at number v early found = go (pushed_at before.earlier next number v (subst (λ l. slice_get l number ≡ Some v) before.added found))
    where
      size : length table ≡ length before.earlier + 1
      size = ap (λ l. length l) before.added ∙ grind (arith, common_steps)

      go : (slice_get before.earlier number ≡ Some v) ⊎ (number ≡ length before.earlier) × (v ≡ next) → Contains before.earlier v
      go (inl f) = contains_at before.earlier number v f
      go (inr e) = let same : number ≡ length before.earlier = e.0 in absurd (omega (arith, size))

  pub nested_of : AreNested steps table now
  nested_of number v early found k p s = go (only_there steps before.earlier table next before.added s.item s.listed)
    where
      go : Contains before.earlier s.item ⊎ (s.item ≡ next) → IsOffered now p
      go (inl a) = offers.kept p (before.closed v p (earlier_at number v early found) (inr (record { number = k; gives = inr (record { item = s.item; listed = a; gives = s.gives }) })))
      go (inr e) = offers.all p (record { number = k; gives = record { item = v; listed = contains_at table number v found; gives = subst (λ i. Closes steps v k i p) e s.gives } })

-- The replies to a search for several walks have one status, which tells whether the request is known.
use Rattle.std.proofs.Common.{◌≡◌, ◌∙◌, sym, refl, ap, subst, ℕ, ◌≤◌, List, [], ◌∷◌, Some, inl, inr, arith}
use Rattle.ml_base.specs.declared.ends.KEnd.{KEnd}
use Rattle.ml_base.specs.declared.ends.KEnd.TheVariants as ends
use Rattle.circuit_spec.specs.declared.hops.Outcome.{Outcome}
use Rattle.circuit_spec.specs.declared.hops.Outcome.TheVariants.{Found, NoWalk, Past, Long}
use Rattle.circuit_spec.specs.declared.hops.Request.{Request}
use Rattle.circuit_spec.specs.declared.hops.TheConstants.{HOP_LIMIT}
use Rattle.circuit_spec.specs.Faults.{IsKnown}
use Rattle.circuit_spec.specs.Network.{Topology}
use Rattle.circuit_spec.specs.Steps.{IsOutcome, weight_of}
use Rattle.circuit_spec.proofs.OneOutcome.{one_outcome}
use Rattle.k_answers.specs.declared.answer.KHops.{KHops}
use Rattle.k_answers.specs.KLists.{IsKList, outcome_found, outcome_told}
use Rattle.replies.specs.declared.reply.Reply.{Reply}
use Rattle.replies.specs.declared.reply.Status.{Status}
use Rattle.replies.specs.Status.{k_status_of, status_of}
use Rattle.file_words.proofs.Passing.{SameStatus, by-lines}
use Rattle.find_command.proofs.Searched.{refusal-apart}
use Rattle.k_find_command.specs.Listing.{IsListed, IsKFound}

-- a list tells an outcome, whose status is its own
pub record Tells (T : Topology) (r : Request) (status : Status) : Type 0 where
  pub outcome : Outcome
  pub is : IsOutcome T r outcome
  pub same : status ≡ status_of outcome

abbrev TellsWhatIs : Topology → Request → List KHops → KEnd → Type 0
TellsWhatIs T r walks end = (outcome : Outcome) → outcome_told walks end ≡ Some outcome → IsOutcome T r outcome

tells-list : (T : Topology) (r : Request) (k : ℕ) (walks : List KHops) (end : KEnd) → 1 ≤ k → IsKList T r k HOP_LIMIT walks end → TellsWhatIs T r walks end → Tells T r (k_status_of walks end)
tells-list T r k (w ∷ ws) end some list told =
    let listable = list.listable w (0, omega arith, refl) in
    let found = Found (weight_of T w.hops).cost (weight_of T w.hops).hops in
    record { outcome = found; is = told found (ap outcome_found listable.weight); same = refl }
tells-list T r k [] ends.Enough some list told =
    let none : 0 ≡ k = list.is_end in absurd (omega (arith, some, none))
tells-list T r k [] ends.NoMore some list told = record { outcome = NoWalk; is = told NoWalk refl; same = refl }
tells-list T r k [] ends.Past some list told = record { outcome = Past; is = told Past refl; same = refl }
tells-list T r k [] (ends.Long cost hops) some list told = record { outcome = Long cost hops; is = told (Long cost hops) refl; same = refl }

pub listed-known : (T : Topology) (r : Request) (k : ℕ) (a : Reply) → IsListed T r k a → IsKnown T r
listed-known T r k a p = p.cheapest.known

pub listed-tells : (T : Topology) (r : Request) (k : ℕ) (a : Reply) → IsListed T r k a → Tells T r a.status
listed-tells T r k a p =
    let told = tells-list T r k p.answer.walks p.answer.end p.some p.cheapest.list p.cheapest.outcome in
    record { outcome = told.outcome; is = told.is; same = ap (λ (x : Reply). x.status) p.is ∙ told.same }

-- ---- replies

pub k-found-one : (r : Request) (k : ℕ) (T : Topology) (a b : Reply) → IsKFound r k T a → IsKFound r k T b → SameStatus a b
k-found-one r k T a b (inl p) (inl q) = by-lines a b _ _ p.is q.is refl
k-found-one r k T a b (inl p) (inr q) = absurd (refusal-apart T r p.fault p.told p.cause (listed-known T r k b q))
k-found-one r k T a b (inr p) (inl q) = absurd (refusal-apart T r q.fault q.told q.cause (listed-known T r k a p))
k-found-one r k T a b (inr p) (inr q) =
    let m = listed-tells T r k a p in
    let n = listed-tells T r k b q in
    m.same ∙ ap status_of (one_outcome T r m.outcome n.outcome m.is n.is) ∙ sym n.same

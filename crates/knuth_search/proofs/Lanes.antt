-- Lanes, of which one is replaced by what a push or a pop makes of it.
use Rattle.std.proofs.Common.{◌≡◌, ℕ, ◌<◌, ◌⊎◌, zero as nought, suc, List, [], ◌∷◌, ◌++◌, length, map, refl, sym, ◌∙◌, ap, subst, inl, inr, arith, Contains, replicate}
use Rattle.std.proofs.Math.ListN.{set, get_or, length-set}
use Rattle.std.specs.List.{All}
use Rattle.std.specs.List.Sorted.{IsPermutation}
use Rattle.std.proofs.lemmas.List.{get_or_read}
use Rattle.std.proofs.lemmas.List.Elements.{All-set, All-get_or, All-replicate, All-cons, All-head, All-tail, Contains-append_left, Contains-append_right, Contains-append_cases}
use Rattle.std.proofs.lemmas.List.Sorted.{IsPermutation-map, All-permutation, Contains-permutation}
use Rattle.segment_grammar.specs.declared.potentials.Pot.{Pot}
use Rattle.knuth_search.specs.declared.derived.Derived.{Derived}
use Rattle.knuth_search.specs.Derived.{Task}
use Rattle.knuth_search.specs.Offered.{OfferedValue, Puts}
use Rattle.knuth_search.specs.Tables.{Queued, pot_of, IsKept}
use Rattle.knuth_search.specs.Lanes.{lane_in, pots_in, AreLanes}
use Rattle.knuth_search.specs.Following.{IsNoHeavier, Offers}
use Rattle.knuth_search.proofs.Keys.{offers_it}
use Rattle.knuth_search.proofs.Offering.{contains_cases}

-- what waited waits, as far as it does in the lane that is replaced
waits_or : (E : Pot → Type 0) (lanes : List (List Derived)) (number : ℕ) (lane : List Derived) → ((p : Pot) → Contains (map pot_of (lane_in lanes number)) p → Contains (map pot_of lane) p ⊎ E p)
    → (p : Pot) → Contains (pots_in lanes) p → Contains (pots_in (set lanes number lane)) p ⊎ E p
waits_or E [] number lane kept p c = inl c
waits_or E (first ∷ lanes) nought lane kept p c = elim (Contains-append_cases (map pot_of first) (pots_in lanes) p c) as (λ v. Contains (map pot_of lane ++ pots_in lanes) p ⊎ E p) [
  | inl a ↦ elim (kept p a) as (λ v. Contains (map pot_of lane ++ pots_in lanes) p ⊎ E p) [ inl b ↦ inl (Contains-append_left (map pot_of lane) (pots_in lanes) p b) | inr e ↦ inr e ]
  | inr a ↦ inl (Contains-append_right (map pot_of lane) (pots_in lanes) p a)
]
waits_or E (first ∷ lanes) (suc number) lane kept p c = elim (Contains-append_cases (map pot_of first) (pots_in lanes) p c) as (λ v. Contains (map pot_of first ++ pots_in (set lanes number lane)) p ⊎ E p) [
  | inl a ↦ inl (Contains-append_left (map pot_of first) (pots_in (set lanes number lane)) p a)
  | inr a ↦ elim (waits_or E lanes number lane kept p a) as (λ v. Contains (map pot_of first ++ pots_in (set lanes number lane)) p ⊎ E p) [
    | inl b ↦ inl (Contains-append_right (map pot_of first) (pots_in (set lanes number lane)) p b)
    | inr e ↦ inr e
  ]
]

waits_there : (lanes : List (List Derived)) (number : ℕ) (lane : List Derived) → number < length lanes → (p : Pot) → Contains (map pot_of lane) p → Contains (pots_in (set lanes number lane)) p
waits_there [] number lane below p c = absurd (omega (arith, below))
waits_there (first ∷ lanes) nought lane below p c = Contains-append_left (map pot_of lane) (pots_in lanes) p c
waits_there (first ∷ lanes) (suc number) lane below p c = Contains-append_right (map pot_of first) (pots_in (set lanes number lane)) p (waits_there lanes number lane (omega (arith, below)) p c)

-- the lane that is replaced
module _ (task : Task) (offered : OfferedValue) (lanes : List (List Derived)) (are : AreLanes task offered lanes) (number : ℕ) (below : number < length lanes) (old new : List Derived) (at : old ≡ get_or lanes number old)
    (queue : Queued) (seen : record { task = task; waiting = pots_in lanes; offered = offered } ≡ queue) where
  abbrev after : List (List Derived)
  after = set lanes number new

  was : lane_in lanes number ≡ old
  was = sym (get_or_read lanes number old below at [])

  kept_here : All (IsKept task) old
  kept_here = subst (λ l. All (IsKept task) l) was (All-get_or (λ l. All (IsKept task) l) lanes number [] below are.kept)

  lanes_kept : (later : OfferedValue) → later.plan ≡ offered.plan → length later.request ≡ length offered.request → All (IsKept task) new → AreLanes task later after
  lanes_kept later plan states kept = record {
    rooms = length-set lanes number new ∙ are.rooms ∙ sym (ap (λ p. p.lanes) plan);
    states = states ∙ are.states;
    kept = All-set (λ l. All (IsKept task) l) lanes number new kept are.kept;
  }

  -- a candidate that is put in
  module _ (x : Derived) (moved : IsPermutation (x ∷ old) new) (later : OfferedValue) where
    pub push_kept : later.plan ≡ offered.plan → length later.request ≡ length offered.request → IsKept queue.task x → AreLanes task later after
    push_kept plan states is = lanes_kept later plan states (All-permutation (IsKept task) (x ∷ old) new moved (All-cons (IsKept task) x old (subst (λ t. IsKept t x) (sym (ap (λ q. q.task) seen)) is) kept_here))

    push_lane : (p : Pot) → Contains (pot_of x ∷ map pot_of old) p → Contains (map pot_of new) p
    push_lane p c = Contains-permutation (pot_of x ∷ map pot_of old) (map pot_of new) p (IsPermutation-map pot_of (x ∷ old) new moved) c

    push_waits : (p : Pot) → Contains (pots_in lanes) p → Contains (pots_in after) p
    push_waits p c = elim (waits_or (λ q. ⊥) lanes number new (λ q d. inl (push_lane q (behind q (subst (λ l. Contains (map pot_of l) q) was d)))) p c) as (λ v. Contains (pots_in after) p) [ inl a ↦ a | inr a ↦ absurd a ]
      where
        behind : (q : Pot) → Contains (map pot_of old) q → Contains (pot_of x ∷ map pot_of old) q
        behind q d = (suc d.0, omega (arith, d.1), d.2)

    pub push_offers : Puts offered (pot_of x) later → IsNoHeavier queue (pot_of x) → Offers (λ p. p ≡ pot_of x) queue (record { task = task; waiting = pots_in after; offered = later })
    push_offers puts lighter = subst (λ q. Offers (λ p. p ≡ pot_of x) q (record { task = task; waiting = pots_in after; offered = later })) seen
        (offers_it (record { task = task; waiting = pots_in lanes; offered = offered }) (record { task = task; waiting = pots_in after; offered = later }) (pot_of x) puts push_waits
        (waits_there lanes number new below (pot_of x) (push_lane (pot_of x) (0, omega arith, refl))) (subst (λ q. IsNoHeavier q (pot_of x)) (sym seen) lighter))

  -- a candidate that is taken out
  module _ (x : Derived) (moved : IsPermutation old (x ∷ new)) where
    pop_all : All (IsKept task) (x ∷ new)
    pop_all = All-permutation (IsKept task) old (x ∷ new) moved kept_here

    pub pop_kept : IsKept queue.task x
    pop_kept = subst (λ t. IsKept t x) (ap (λ q. q.task) seen) (All-head (IsKept task) x new pop_all)

    pub pop_lanes : AreLanes task offered after
    pop_lanes = lanes_kept offered refl refl (All-tail (IsKept task) x new pop_all)

    pop_lane : (p : Pot) → Contains (map pot_of old) p → Contains (map pot_of new) p ⊎ (p ≡ pot_of x)
    pop_lane p c = contains_cases (pot_of x) p (map pot_of new) (Contains-permutation (map pot_of old) (pot_of x ∷ map pot_of new) p (IsPermutation-map pot_of old (x ∷ new) moved) c)

    pub pop_waits : (p : Pot) → Contains queue.waiting p → Contains (pot_of x ∷ pots_in after) p
    pop_waits p c = elim (waits_or (λ q. q ≡ pot_of x) lanes number new (λ q d. pop_lane q (subst (λ l. Contains (map pot_of l) q) was d)) p (subst (λ q. Contains q.waiting p) (sym seen) c)) as (λ v. Contains (pot_of x ∷ pots_in after) p) [
      | inl a ↦ (suc a.0, omega (arith, a.1), a.2)
      | inr e ↦ (0, omega arith, sym e)
    ]

-- where nothing waits in any lane
pub pots_none : (lanes : List (List Derived)) → All (λ l. l ≡ []) lanes → pots_in lanes ≡ []
pots_none [] none = refl
pots_none (first ∷ lanes) none =
    ap (λ l. map pot_of l ++ pots_in lanes) (All-head (λ l. l ≡ []) first lanes none) ∙ pots_none lanes (All-tail (λ l. l ≡ []) first lanes none)

-- empty lanes
module _ (lanes : List (List Derived)) (count : ℕ) (fresh : lanes ≡ replicate count []) where
  all_fresh : (P : List Derived → Type 0) → P [] → All P lanes
  all_fresh P is = subst (λ l. All P l) (sym fresh) (All-replicate P count [] is)

  pub begun_waiting : pots_in lanes ≡ []
  begun_waiting = pots_none lanes (all_fresh (λ l. l ≡ []) refl)

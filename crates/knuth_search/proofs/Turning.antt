-- What the search keeps from turn to turn, and what it has found at the end.
use Rattle.std.proofs.Common.{◌≡◌, ℕ, ◌+◌, ◌⊎◌, List, [], ◌∷◌, ◌++◌, refl, sym, ◌∙◌, ap, subst, inl, inr, arith, Contains, Some, None, Option, slice_get}
use Rattle.std.proofs.lemmas.List.Elements.{Contains-push, Contains-push_cases, Contains-append_left}
use Rattle.ml_base.specs.declared.numbers.StateNo.{StateNo}
use Rattle.ml_base.specs.declared.numbers.FrameNo.{FrameNo}
use Rattle.ml_base.specs.declared.numbers.Root.{Root}
use Rattle.ml_base.specs.declared.numbers.Root.TheVariants.{Request, Entry}
use Rattle.ml_base.specs.declared.weight.Weight.{Weight}
use Rattle.ml_base.specs.Weight.{cap, capped_total, IsCappedAtMost}
use Rattle.ml_base.proofs.Laws.{full, cap-total, capped_total-at_most, at_most-same, at_most-trans, at_most-either}
use Rattle.walk_grammar.specs.System as walk
use Rattle.walk_grammar.proofs.Grammar.{Rules, rules_complete}
use Rattle.adapt_machine.specs.declared.MachineStep.{MachineStep}
use Rattle.adapt_machine.specs.Walks.{system_of, weight_of, cost_found}
use Rattle.segment_grammar.specs.declared.potentials.Pot.{Pot}
use Rattle.segment_grammar.specs.Pots.{pot, IsOfPair}
use Rattle.segment_grammar.specs.Index.{step_no, IsPushFrom, IsPopAt}
use Rattle.segment_grammar.specs.Reached.{origin_of, IsLeast}
use Rattle.deriv_arena.specs.declared.Deriv.{Deriv}
use Rattle.deriv_arena.specs.Derivation.{unfolding_of}
use Rattle.knuth_search.specs.Derived.{Task, IsDerived}
use Rattle.knuth_search.proofs.Deriving.{derived_segment, derived_weight}
use Rattle.knuth_search.specs.Following.{zero, stepped, IsCovered, IsOffered, IsBeaten, IsStepOf, NestedBy, Closes, PushedBy, Extends, Fills, SomePot, Offers}
use Rattle.knuth_search.specs.Offered.{offered_at}
use Rattle.knuth_search.specs.Overtaken.{IsClosed}
use Rattle.knuth_search.specs.Tables.{Queued}
use Rattle.knuth_search.specs.Searching.{Begins, Follows, Turns, IsComplete}
use Rattle.knuth_search.proofs.Filed.{covered_itself}
use Rattle.knuth_search.proofs.Offering.{contains_cases, covered_in}

-- each start, and all that follows in one step or nest from the table, was offered; what was offered is in the table or waits, at no more
pub record IsSearching (steps : List MachineStep) (starts : List StateNo) (table : List Pot) (queue : Queued) : Type 0 where
  pub begun : (a : StateNo) → Contains starts a → IsOffered queue (pot Request a zero)
  pub closed : (v p : Pot) → Contains table v → Extends steps table v p → IsOffered queue p
  pub stands : (p : Pot) → IsOffered queue p → IsCovered table p ⊎ IsCovered queue.waiting p

covered_by : (list : List Pot) (p q : Pot) → IsCovered list q → (w : Weight) → pot p.root p.state w ≡ q → IsCappedAtMost w p.weight → IsCovered list p
covered_by list p q c w e m =
    let d : IsCovered list (pot p.root p.state w) = subst (λ v. IsCovered list v) (sym e) c in
    record { weight = d.weight; listed = d.listed; at_most = at_most-trans d.weight w p.weight d.at_most m }

module _ (steps : List MachineStep) (table table' : List Pot) (next : Pot) (added : table' ≡ table ++ next ∷ []) where
  pub kept_there : (p : Pot) → Contains table p → Contains table' p
  kept_there p c = subst (λ v. Contains v p) (sym added) (Contains-append_left table (next ∷ []) p c)

  pub next_there : Contains table' next
  next_there = subst (λ v. Contains v next) (sym added) (Contains-push table next)

  pub only_there : (p : Pot) → Contains table' p → Contains table p ⊎ (p ≡ next)
  only_there p c = elim (Contains-push_cases table next p (subst (λ v. Contains v p) added c)) as (λ v. Contains table p ⊎ (p ≡ next)) [ inl a ↦ inl a | inr b ↦ inr (sym b) ]

  -- what follows over the later table follows over the earlier, or has `next` as its inner part
  pub extends_split : (v p : Pot) → Contains table' v → Extends steps table' v p → Extends steps table v p ⊎ Fills steps table' next p
  extends_split v p c (inl f) = inl (inl f)
  extends_split v p c (inr s) = go s.gives
    where
      again : PushedBy steps table v s.number p → Extends steps table v p
      again g = inr (record { number = s.number; gives = g })

      nested : (n : SomePot table' (λ inner p. Closes steps v s.number inner p) p) → Contains table n.item ⊎ (n.item ≡ next) → Extends steps table v p ⊎ Fills steps table' next p
      nested n (inl a) = inl (again (inr (record { item = n.item; listed = a; gives = n.gives })))
      nested n (inr e) = inr (record { number = s.number; gives = record { item = v; listed = c; gives = subst (λ i. Closes steps v s.number i p) e n.gives } })

      go : PushedBy steps table' v s.number p → Extends steps table v p ⊎ Fills steps table' next p
      go (inl o) = inl (again (inl o))
      go (inr n) = nested n (only_there n.item n.listed)

lighter_of : (u w : Weight) → (IsCappedAtMost w u → ⊥) → IsCappedAtMost u w
lighter_of u w less = elim (at_most-either u w) as (λ v. IsCappedAtMost u w) [ inl a ↦ a | inr b ↦ absurd (less b) ]

-- what followed from the table was offered still, when a pair has left the queue
pub closed_popped : (steps : List MachineStep) (starts : List StateNo) (table : List Pot) (queue popped : Queued) → popped.offered ≡ queue.offered → IsSearching steps starts table queue → IsClosed steps table popped
closed_popped steps starts table queue popped same is v p c e =
    let o : IsOffered queue p = is.closed v p c e in
    record { weight = o.weight; found = subst (λ m. offered_at m p.root p.state ≡ Some o.weight) (sym same) o.found; at_most = o.at_most }

-- a pair that leaves the queue
module _ (steps : List MachineStep) (starts : List StateNo) (table : List Pot) (queue popped : Queued) (next : Pot)
    (moved : (p : Pot) → Contains queue.waiting p → Contains (next ∷ popped.waiting) p) (same : popped.offered ≡ queue.offered) (is : IsSearching steps starts table queue) where
  was_offered : (p : Pot) → IsOffered popped p → IsOffered queue p
  was_offered p o = record { weight = o.weight; found = subst (λ m. offered_at m p.root p.state ≡ Some o.weight) same o.found; at_most = o.at_most }

  still_offered : (p : Pot) → IsOffered queue p → IsOffered popped p
  still_offered p o = record { weight = o.weight; found = subst (λ m. offered_at m p.root p.state ≡ Some o.weight) (sym same) o.found; at_most = o.at_most }

  -- what covered a pot covers it still, or has left
  waits_or_left : (p : Pot) → IsCovered queue.waiting p → IsCovered popped.waiting p ⊎ ((w : Weight) × (pot p.root p.state w ≡ next) × IsCappedAtMost w p.weight)
  waits_or_left p c = elim (contains_cases next (pot p.root p.state c.weight) popped.waiting (moved (pot p.root p.state c.weight) c.listed))
      as (λ v. IsCovered popped.waiting p ⊎ ((w : Weight) × (pot p.root p.state w ≡ next) × IsCappedAtMost w p.weight)) [
        | inl r ↦ inl (record { weight = c.weight; listed = r; at_most = c.at_most })
        | inr e ↦ inr (c.weight, e, c.at_most)
      ]

  -- a pair that was offered at less need not wait
  module _ (beaten : IsBeaten popped next) where
    lighter_next : IsCovered table next ⊎ IsCovered popped.waiting next
    lighter_next =
        let at : Pot = pot next.root next.state beaten.weight in
        let lower : IsCappedAtMost beaten.weight next.weight = lighter_of beaten.weight next.weight beaten.less in
        elim (is.stands at (was_offered at (record { weight = beaten.weight; found = beaten.found; at_most = at_most-same beaten.weight }))) as (λ v. IsCovered table next ⊎ IsCovered popped.waiting next) [
          | inl c ↦ inl (covered_by table next at c beaten.weight refl lower)
          | inr c ↦ elim (waits_or_left at c) as (λ v. IsCovered table next ⊎ IsCovered popped.waiting next) [
            | inl d ↦ inr (covered_by popped.waiting next at d beaten.weight refl lower)
            | inr d ↦ absurd (beaten.less (subst (λ w. IsCappedAtMost w beaten.weight) (ap (λ v. v.weight) d.1) d.2))
          ]
        ]

    beaten_stands : (p : Pot) → IsOffered popped p → IsCovered table p ⊎ IsCovered popped.waiting p
    beaten_stands p o = elim (is.stands p (was_offered p o)) as (λ v. IsCovered table p ⊎ IsCovered popped.waiting p) [
      | inl c ↦ inl c
      | inr c ↦ elim (waits_or_left p c) as (λ v. IsCovered table p ⊎ IsCovered popped.waiting p) [
        | inl d ↦ inr d
        | inr d ↦ elim lighter_next as (λ v. IsCovered table p ⊎ IsCovered popped.waiting p) [ inl t ↦ inl (covered_by table p next t d.0 d.1 d.2) | inr q ↦ inr (covered_by popped.waiting p next q d.0 d.1 d.2) ]
      ]
    ]

    turn_beaten : IsSearching steps starts table popped
    turn_beaten = record { begun = λ a c. still_offered (pot Request a zero) (is.begun a c); closed = λ v p c e. still_offered p (is.closed v p c e); stands = beaten_stands }

  -- a pair that is put into the table
  module _ (table' : List Pot) (queue' : Queued) (added : table' ≡ table ++ next ∷ []) (offers : Offers (λ p. Follows steps table' next p) popped queue') where
    put_closed : (v p : Pot) → Contains table' v → Extends steps table' v p → IsOffered queue' p
    put_closed v p c e = elim (only_there steps table table' next added v c) as (λ w. IsOffered queue' p) [
      | inl old ↦ elim (extends_split steps table table' next added v p c e) as (λ w. IsOffered queue' p) [ inl f ↦ offers.kept p (still_offered p (is.closed v p old f)) | inr g ↦ offers.all p (inr g) ]
      | inr s ↦ offers.all p (inl (subst (λ w. Extends steps table' w p) s e))
    ]

    put_next : IsCovered table' next
    put_next = covered_itself table' next (next_there steps table table' next added)

    put_stands : (p : Pot) → IsOffered queue' p → IsCovered table' p ⊎ IsCovered queue'.waiting p
    put_stands p o = elim (offers.held p o) as (λ v. IsCovered table' p ⊎ IsCovered queue'.waiting p) [
      | inr c ↦ inr c
      | inl old ↦ elim (is.stands p (was_offered p old)) as (λ v. IsCovered table' p ⊎ IsCovered queue'.waiting p) [
        | inl c ↦ inl (covered_in table table' (kept_there steps table table' next added) p c)
        | inr c ↦ elim (waits_or_left p c) as (λ v. IsCovered table' p ⊎ IsCovered queue'.waiting p) [
          | inl d ↦ inr (covered_in popped.waiting queue'.waiting offers.waits p d)
          | inr d ↦ inl (covered_by table' p next put_next d.0 d.1 d.2)
        ]
      ]
    ]

    turn_put : IsSearching steps starts table' queue'
    turn_put = record { begun = λ a c. offers.kept (pot Request a zero) (still_offered (pot Request a zero) (is.begun a c)); closed = put_closed; stands = put_stands }

  pub searching_turn : (table' : List Pot) (queue' : Queued) → Turns steps table popped next table' queue' → IsSearching steps starts table' queue'
  searching_turn table' queue' (inl s) = subst (λ t. IsSearching steps starts t queue') (sym s.1) (subst (λ q. IsSearching steps starts table q) (sym s.2) (turn_beaten s.0))
  searching_turn table' queue' (inr s) = turn_put table' queue' s.0 s.1

-- before the first turn
pub searching_begun : (steps : List MachineStep) (starts : List StateNo) (table : List Pot) (old queue : Queued) → table ≡ [] → ((root : Root) (state : StateNo) → offered_at old.offered root state ≡ None) → Offers (λ p. Begins starts p) old queue
    → IsSearching steps starts table queue
searching_begun steps starts table old queue empty fresh offers = record {
  begun = λ a c. offers.all (pot Request a zero) (a, c, refl);
  closed = λ v p c e. absurd (none v (subst (λ t. Contains t v) empty c));
  stands = λ p o. elim (offers.held p o) as (λ v. IsCovered table p ⊎ IsCovered queue.waiting p) [
    | inl b ↦ absurd (never (offered_at old.offered p.root p.state) b.weight (fresh p.root p.state) b.found)
    | inr b ↦ inr b
  ];
}
  where
    none : (p : Pot) → Contains [] p → ⊥
    none p c = omega (arith, c.1)

    never : (m : Option Weight) (w : Weight) → m ≡ None → m ≡ Some w → ⊥
    never m w gone e = cc

abbrev root_of : walk.Origin StateNo → Root
root_of walk.Request = Request
root_of (walk.Entry x) = Entry x

root_same : (root : Root) → root_of (origin_of root) ≡ root
root_same Request = refl
root_same (Entry x) = refl

-- after the last turn
module _ (steps : List MachineStep) (starts : List StateNo) (table : List Pot) (queue : Queued) (ended : queue.waiting ≡ []) (is : IsSearching steps starts table queue) where
  in_table : (p : Pot) → IsOffered queue p → IsCovered table p
  in_table p o = elim (is.stands p o) as (λ v. IsCovered table p) [ inl c ↦ c | inr c ↦ absurd (none (subst (λ l. IsCovered l p) ended c)) ]
    where
      none : IsCovered [] p → ⊥
      none c = omega (arith, c.listed.1)

  -- the table has the pair at no more than this weight
  abbrev Within : walk.Origin StateNo → StateNo → ℕ → ℕ → Type 0
  Within r y c h = IsCovered table (pot (root_of r) y (cap (full c h)))

  lighter : (r : Root) (y : StateNo) (u w : Weight) → IsCovered table (pot r y u) → IsCappedAtMost u w → IsCovered table (pot r y w)
  lighter r y u w c m = record { weight = c.weight; listed = c.listed; at_most = at_most-trans c.weight u w c.at_most m }

  abbrev cost : ℕ → ℕ
  cost k = cost_found (slice_get steps k)

  -- one more step keeps the order
  stepped_within : (u : Weight) (c h k : ℕ) (t : MachineStep) → slice_get steps k ≡ Some t → IsCappedAtMost u (cap (full c h)) → IsCappedAtMost (stepped u t) (cap (full (c + cost k) (h + 1)))
  stepped_within u c h k t found m =
      let e : cost k ≡ t.cost = ap cost_found found in
      subst (λ d. IsCappedAtMost (stepped u t) (cap (full (c + d) (h + 1)))) (sym e)
      (subst (λ w. IsCappedAtMost (stepped u t) w) (sym (cap-total c h t.cost 1)) (capped_total-at_most u (cap (full c h)) (cap (full t.cost 1)) (cap (full t.cost 1)) m (at_most-same (cap (full t.cost 1)))))

  extends_rule : (r : walk.Origin StateNo) (x : StateNo) (c h : ℕ) → Within r x c h → (k : ℕ) (y : StateNo) → (system_of steps).Keeps x k y → Within r y (c + cost k) (h + 1)
  extends_rule r x c h w k y s =
      let t : MachineStep = s.0 in
      let next : IsCovered table (pot (root_of r) t.to (stepped w.weight t)) = in_table _ (is.closed (pot (root_of r) x w.weight) (pot (root_of r) t.to (stepped w.weight t)) w.listed
      (inl (record { number = step_no k; gives = record { step = record { step = t; found = s.1.found; passes = (s.1.is_kind, s.1.leaves) }; is = refl } }))) in
      lighter (root_of r) y (stepped w.weight t) (cap (full (c + cost k) (h + 1))) (subst (λ v. IsCovered table (pot (root_of r) v (stepped w.weight t))) s.1.enters next)
      (stepped_within w.weight c h k t s.1.found w.at_most)

  opens_rule : (r : walk.Origin StateNo) (x : StateNo) (c h : ℕ) → Within r x c h → (k : ℕ) (f : FrameNo) (y : StateNo) → (system_of steps).Pushes x k f y → Within (walk.Entry y) y 0 0
  opens_rule r x c h w k f y s =
      let t : MachineStep = s.0 in
      let next : IsCovered table (pot (Entry t.to) t.to zero) = in_table _ (is.closed (pot (root_of r) x w.weight) (pot (Entry t.to) t.to zero) w.listed
      (inr (record { number = step_no k; gives = inl (record { push = record { step = t; found = s.1.found; passes = (s.1.is_kind, s.1.leaves) }; is = refl }) }))) in
      subst (λ v. IsCovered table (pot (Entry v) v zero)) s.1.enters next

  nests_rule : (r : walk.Origin StateNo) (x : StateNo) (c h : ℕ) → Within r x c h → (k : ℕ) (f : FrameNo) (e : StateNo) → (system_of steps).Pushes x k f e
      → (y : StateNo) (d g : ℕ) → Within (walk.Entry e) y d g → (l : ℕ) (z : StateNo) → (system_of steps).Pops y l f z → Within r z (c + cost k + d + cost l) (h + 1 + g + 1)
  nests_rule r x c h w k f e s y d g i l z o =
      let t : MachineStep = s.0 in
      let q : MachineStep = o.0 in
      let base : Weight = capped_total (stepped w.weight t) i.weight in
      let push : IsStepOf steps (IsPushFrom x) (step_no k) = record { step = t; found = s.1.found; passes = (s.1.is_kind, s.1.leaves) } in
      let under : Entry e ≡ Entry t.to = ap (λ v. Entry v) (sym s.1.enters) in
      let pop : IsStepOf steps (IsPopAt y t.frame) (step_no l) = record { step = q; found = o.1.found; passes = (o.1.is_kind, o.1.leaves, o.2 ∙ sym s.2) } in
      let nested : NestedBy steps (pot (root_of r) x w.weight) (step_no k) (pot (Entry e) y i.weight) (step_no l) (pot (root_of r) q.to (stepped base q)) =
      record { meets = record { enters = record { push = push; under = under }; pop = pop }; is = refl } in
      let next : IsCovered table (pot (root_of r) q.to (stepped base q)) = in_table _ (is.closed (pot (root_of r) x w.weight) (pot (root_of r) q.to (stepped base q)) w.listed
      (inr (record { number = step_no k; gives = inr (record { item = pot (Entry e) y i.weight; listed = i.listed; gives = record { number = step_no l; gives = nested } }) }))) in
      let at_base : IsCappedAtMost base (cap (full (c + cost k + d) (h + 1 + g))) =
      subst (λ v. IsCappedAtMost base v) (sym (cap-total (c + cost k) (h + 1) d g))
      (capped_total-at_most (stepped w.weight t) (cap (full (c + cost k) (h + 1))) i.weight (cap (full d g)) (stepped_within w.weight c h k t s.1.found w.at_most) i.at_most) in
      lighter (root_of r) z (stepped base q) (cap (full (c + cost k + d + cost l) (h + 1 + g + 1))) (subst (λ v. IsCovered table (pot (root_of r) v (stepped base q))) o.1.enters next)
      (stepped_within base (c + cost k + d) (h + 1 + g) l q o.1.found at_base)

  rules : Rules (system_of steps) (λ a. Contains starts a) Within
  rules = record { begins = λ a c. in_table (pot Request a zero) (is.begun a c); extends = extends_rule; opens = opens_rule; nests = nests_rule }

  pub is_complete : IsComplete steps starts table
  is_complete root ks y s = subst (λ r. IsCovered table (pot r y (weight_of steps ks))) (root_same root)
      (rules_complete (system_of steps) (λ a. Contains starts a) Within rules (origin_of root) ks y s)

-- a derived pair that weighs no more than what is listed of it has the least weight of its segments
pub least_derived : (task : Task) (table : List Pot) (root : Root) (state : StateNo) (w : Weight) (d : Deriv) → IsComplete task.machine.steps task.starts table → IsDerived task (pot root state w) d
    → ((p : Pot) → Contains table p → IsOfPair p root state → IsCappedAtMost w p.weight) → IsLeast task.machine.steps task.starts root state w
least_derived task table root state w d complete is least = record {
  segment = unfolding_of d;
  is_segment = derived_segment task (pot root state w) d is;
  weight = derived_weight task (pot root state w) d is;
  least = λ ks s.
      let c : IsCovered table (pot root state (weight_of task.machine.steps ks)) = complete root ks state s in
      at_most-trans w c.weight (weight_of task.machine.steps ks) (least (pot root state c.weight) c.listed (refl, refl)) c.at_most;
}

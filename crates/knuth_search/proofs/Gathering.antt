-- The pairs of a table in their order.
use Rattle.std.proofs.Common.{◌≡◌, ℕ, ◌+◌, ◌-◌, ◌<◌, ◌≤◌, ◌⊎◌, List, [], ◌∷◌, ◌++◌, length, length-append, refl, sym, ◌∙◌, ap, subst, inl, inr, arith, Contains, Some, slice_get, map, zero, suc}
use Rattle.std.specs.List.{All}
use Rattle.std.specs.Prelude.{false, slice_index_or}
use Rattle.std.specs.List.Sorted.{IsPermutation, IsSortedByKey}
use Rattle.std.specs.Fn.{Called, ComputesKey}
use Rattle.std.specs.Ordering.{is_lt, nat_cmp, ordering_then}
use Rattle.std.proofs.lemmas.Grind.{common_steps}
use Rattle.std.specs.declared.cmp.Ordering.{Ordering}
use Rattle.std.specs.declared.cmp.Ordering.TheVariants.{Less, Equal, Greater}
use Rattle.std.proofs.lemmas.Fn.{always_returns_same}
use denote.Param.Members.{Mut}
use denote.Ref.{Bor}
use Rattle.std.specs.Option.{option_map}
use Rattle.std.proofs.lemmas.List.{length-map}
use Rattle.std.proofs.lemmas.List.Sorted.{Contains-permutation, IsPermutation-map}
use Rattle.std.proofs.lemmas.Option.{slice_get-map}
use Rattle.std.proofs.lemmas.Bool.{cases_lt}
use Rattle.std.proofs.lemmas.List.Elements.{All-contains, Contains-push, Contains-push_cases, Contains-append_left}
use Rattle.ml_base.specs.declared.numbers.StateNo.{StateNo}
use Rattle.ml_base.specs.declared.numbers.Root.{Root}
use Rattle.ml_base.specs.declared.numbers.Root.TheVariants.{Request, Entry}
use Rattle.ml_base.specs.declared.weight.Weight.{Weight}
use Rattle.ml_base.specs.declared.weight.Weight.TheVariants.{Known, Past}
use Rattle.ml_base.specs.contracts.numbers.RootOrd.TheImpl as root_order
use Rattle.ml_base.specs.contracts.weight.WeightOrd.TheImpl as weight_order
use Rattle.knuth_search.proofs.Keys.{state_same}
use Rattle.knuth_search.proofs.Offering.{number_cases}
use Rattle.ml_base.specs.Weight.{IsCappedAtMost}
use Rattle.ml_base.proofs.Laws.{at_most-same, at_most-trans}
use Rattle.adapt_machine.specs.Machine.{MachineValue}
use Rattle.segment_grammar.specs.declared.potentials.Pot.{Pot}
use Rattle.segment_grammar.specs.Pots.{pot, IsOfPair, IsRootBelow, IsBelow, IsAboveLast}
use Rattle.segment_grammar.specs.Reached.{IsLeast}
use Rattle.segment_grammar.proofs.Places.{slice_get-below, contains_at, at_contains, pushed_at, same_at}
use Rattle.deriv_arena.specs.declared.Deriv.{Deriv}
use Rattle.knuth_search.specs.declared.derived.Derived.{Derived}
use Rattle.knuth_search.specs.declared.settled.Settled.{Settled}
use Rattle.knuth_search.specs.Derived.{Task, IsDerived}
use Rattle.knuth_search.specs.Following.{IsCovered}
use Rattle.knuth_search.specs.Searching.{IsComplete}
use Rattle.knuth_search.specs.Tables.{pot_of, IsKept}
use Rattle.knuth_search.specs.Settled.{potentials_of, derivs_of, IsSettledOf}
use Rattle.knuth_search.specs.Gathered.{Precedes, AreInOrder, Repeats, HasPair, Lists, IsGathered}
use Rattle.knuth_search.proofs.Deriving.{derived_segment, derived_weight}
use Rattle.knuth_search.proofs.Turning.{least_derived}

-- ---- the order

module _ (r : Root) (s : StateNo) (q : Root) (t : StateNo) where
  root_apart : IsRootBelow r q → r ≡ q → ⊥
  root_apart below same = go r (subst (λ v. IsRootBelow r v) (sym same) below)
    where
      go : (v : Root) → IsRootBelow v v → ⊥
      go Request b = b
      go (Entry x) b = omega (arith, b)

root_trans : (a b c : Root) → IsRootBelow a b → IsRootBelow b c → IsRootBelow a c
root_trans Request Request c l m = absurd l
root_trans Request (Entry y) Request l m = absurd m
root_trans Request (Entry y) (Entry z) l m = tt
root_trans (Entry x) Request c l m = absurd l
root_trans (Entry x) (Entry y) Request l m = absurd m
root_trans (Entry x) (Entry y) (Entry z) l m = omega (arith, l, m)

below_trans : (p q r : Pot) → IsBelow p.root p.state q.root q.state → IsBelow q.root q.state r.root r.state → IsBelow p.root p.state r.root r.state
below_trans p q r (inl l) (inl m) = inl (root_trans p.root q.root r.root l m)
below_trans p q r (inl l) (inr m) = inl (subst (λ v. IsRootBelow p.root v) m.0 l)
below_trans p q r (inr l) (inl m) = inl (subst (λ v. IsRootBelow v r.root) (sym l.0) m)
below_trans p q r (inr l) (inr m) = inr (l.0 ∙ m.0, omega (arith, l.1, m.1))

below_as : (p q : Pot) (root : Root) (state : StateNo) → IsOfPair q root state → IsBelow p.root p.state q.root q.state → IsBelow p.root p.state root state
below_as p q root state same b = subst (λ v. IsBelow p.root p.state v state) same.0 (subst (λ v. IsBelow p.root p.state q.root v) same.1 b)

as_below : (p q : Pot) (root : Root) (state : StateNo) → IsOfPair p q.root q.state → IsBelow q.root q.state root state → IsBelow p.root p.state root state
as_below p q root state same b = subst (λ v. IsBelow v p.state root state) (sym same.0) (subst (λ v. IsBelow q.root v root state) (sym same.1) b)

pub precedes_trans : (p q r : Pot) → Precedes p q → Precedes q r → Precedes p r
precedes_trans p q r (inl l) (inl m) = inl (below_trans p q r l m)
precedes_trans p q r (inl l) (inr m) = inl (below_as p q r.root r.state m.0 l)
precedes_trans p q r (inr l) (inl m) = inl (as_below p q r.root r.state l.0 m)
precedes_trans p q r (inr l) (inr m) = inr ((l.0.0 ∙ m.0.0, l.0.1 ∙ m.0.1), at_most-trans p.weight q.weight r.weight l.1 m.1)

-- no pair stands below itself
never_below : (p : Pot) (root : Root) (state : StateNo) → IsOfPair p root state → IsBelow p.root p.state root state → ⊥
never_below p root state same (inl l) = root_apart p.root p.state root state l same.0
never_below p root state same (inr l) = omega (arith, l.1, ap (λ v. v.0) same.1)

-- what stands between two of a pair is of the pair
between_same : (p q r : Pot) → Precedes p q → Precedes q r → IsOfPair p r.root r.state → IsOfPair q r.root r.state
between_same p q r first (inr m) same = m.0
between_same p q r (inl l) (inl m) same = absurd (never_below p r.root r.state same (below_trans p q r l m))
between_same p q r (inr l) (inl m) same = absurd (never_below p r.root r.state same (as_below p q r.root r.state l.0 m))

none_in : {X : Type 0} (x : X) → Contains [] x → ⊥
none_in x c = omega (arith, c.1)

none_at : {X : Type 0} (i : ℕ) (x : X) → slice_get [] i ≡ Some x → ⊥
none_at i x e = cc

stands : {X : Type 0} (xs : List X) (i : ℕ) → i < length xs → (x : X) × (slice_get xs i ≡ Some x)
stands [] i l = absurd (omega arith)
stands (x ∷ xs) zero l = (x, refl)
stands (x ∷ xs) (suc i) l = stands xs i (omega arith)

got : (items : List Derived) (i : ℕ) (e d : Derived) → slice_get items i ≡ Some e → slice_index_or items i d ≡ e
got [] i e d at = absurd (none_at i e at)
got (x ∷ xs) zero e d at = cc
got (x ∷ xs) (suc i) e d at = got xs i e d at

-- ---- the sort

abbrev pub Key : Type 0
Key = Root × StateNo × Weight

abbrev pub item_cmp : Key → Key → Ordering
item_cmp x y = ordering_then (ordering_then (root_order.ghosts.cmp x.0 y.0) (nat_cmp x.1.0 y.1.0)) (weight_order.ghosts.cmp x.2 y.2)

then_cases : (a b : ℕ) (o : Ordering) → is_lt (ordering_then (nat_cmp b a) o) ≡ false → (a < b) ⊎ ((a ≡ b) × (is_lt o ≡ false))
then_cases a b o e = grind (arith, common_steps)

then_assoc : (o q r : Ordering) → ordering_then (ordering_then o q) r ≡ ordering_then o (ordering_then q r)
then_assoc Less q r = refl
then_assoc Equal q r = refl
then_assoc Greater q r = refl

not_less : (a b : ℕ) → is_lt (nat_cmp b a) ≡ false → a ≤ b
not_less a b e = grind (arith, common_steps)

weight_cases : (w u : Weight) → is_lt (weight_order.ghosts.cmp u w) ≡ false → IsCappedAtMost w u
weight_cases (Known a h) (Known b k) e = elim (then_cases a b (nat_cmp k h) e) as (λ v. IsCappedAtMost (Known a h) (Known b k)) [ inl l ↦ inl l | inr s ↦ inr (s.0, not_less h k s.1) ]
weight_cases (Known a h) Past e = tt
weight_cases Past (Known b k) e = absurd (cc)
weight_cases Past Past e = tt

state_cases : (r : Root) (s : StateNo) (w : Weight) (t : StateNo) (u : Weight) → is_lt (ordering_then (nat_cmp t.0 s.0) (weight_order.ghosts.cmp u w)) ≡ false → Precedes (pot r s w) (pot r t u)
state_cases r s w t u e = elim (then_cases s.0 t.0 (weight_order.ghosts.cmp u w) e) as (λ v. Precedes (pot r s w) (pot r t u)) [
  | inl l ↦ inl (inr (refl, l))
  | inr x ↦ inr ((refl, state_same s t x.0), weight_cases w u x.1)
]

key_cases : (r : Root) (s : StateNo) (w : Weight) (q : Root) (t : StateNo) (u : Weight) → is_lt (item_cmp (q, t, u) (r, s, w)) ≡ false → Precedes (pot r s w) (pot q t u)
key_cases Request s w Request t u e = state_cases Request s w t u e
key_cases Request s w (Entry b) t u e = inl (inl tt)
key_cases (Entry a) s w Request t u e = absurd (cc)
key_cases (Entry a) s w (Entry b) t u e = elim (then_cases a.0 b.0 (ordering_then (nat_cmp t.0 s.0) (weight_order.ghosts.cmp u w)) (subst (λ v. is_lt v ≡ false) (then_assoc (nat_cmp b.0 a.0) (nat_cmp t.0 s.0) (weight_order.ghosts.cmp u w)) e)) as (λ v. Precedes (pot (Entry a) s w) (pot (Entry b) t u)) [
  | inl l ↦ inl (inl l)
  | inr x ↦ subst (λ v. Precedes (pot (Entry a) s w) (pot (Entry v) t u)) (state_same a b x.0) (state_cases (Entry a) s w t u x.1)
]

pub item_cases : (d e : Derived) → is_lt (item_cmp (e.root, e.state, e.weight) (d.root, d.state, d.weight)) ≡ false → Precedes (pot_of d) (pot_of e)
item_cases d e = key_cases d.root d.state d.weight e.root e.state e.weight

-- the order that a sort gives, where what is not less precedes
pub in_order_from_sort : {K : Type 0} (key : Derived → K) (cmp : K → K → Ordering) {F : Type 0} {g : Mut F (Bor Derived × Unit {0}) K} {f : F} (items : List Derived)
    → ((key : Derived → K) → ComputesKey g key f → IsSortedByKey key cmp items) → ((a : Bor Derived × Unit {0}) (r : K) (f' : F) → Called g f a r f' → (r ≡ key a.0.now) × (f' ≡ f))
    → ((d e : Derived) → is_lt (cmp (key e) (key d)) ≡ false → Precedes (pot_of d) (pot_of e)) → AreInOrder items
in_order_from_sort key cmp {g = g} {f = f} items up computes precedes = far
  where
    sorted : IsSortedByKey key cmp items
    sorted = up key (always_returns_same g (λ a r. r ≡ key a.0.now) f computes)

    near : (i : ℕ) (d e : Derived) → slice_get items i ≡ Some d → slice_get items (i + 1) ≡ Some e → Precedes (pot_of d) (pot_of e)
    near i d e at next = precedes d e (
        subst (λ v. is_lt (cmp (key v) (key d)) ≡ false) (got items (i + 1) e d next)
        (subst (λ v. is_lt (cmp (key (slice_index_or items (i + 1) d)) (key v)) ≡ false) (got items i d d at) (sorted i d (omega arith) (slice_get-below items (i + 1) e next))))

    climb : (n i : ℕ) (d e : Derived) → slice_get items i ≡ Some d → slice_get items (i + 1 + n) ≡ Some e → Precedes (pot_of d) (pot_of e)
    climb zero i d e at next = near i d e at (subst (λ k. slice_get items k ≡ Some e) (omega arith) next)
    climb (suc n) i d e at next =
        let at_end : i + 1 + suc n ≡ i + 1 + n + 1 = omega arith in
        let end : slice_get items (i + 1 + n + 1) ≡ Some e = subst (λ k. slice_get items k ≡ Some e) at_end next in
        let b : (v : Derived) × (slice_get items (i + 1 + n) ≡ Some v) = stands items (i + 1 + n) (omega (arith, slice_get-below items (i + 1 + n + 1) e end)) in
        precedes_trans (pot_of d) (pot_of b.0) (pot_of e) (climb n i d b.0 at b.1) (near (i + 1 + n) b.0 e b.1 end)

    far : AreInOrder items
    far i j d e l at there =
        let apart : j ≡ i + 1 + (j - i - 1) = omega (arith, l) in
        climb (j - i - 1) i d e at (subst (λ k. slice_get items k ≡ Some e) apart there)

-- ---- a turn of the loop

-- what is listed of the first `n` items
pub record IsGathering (task : Task) (items : List Derived) (n : ℕ) (potentials : List Pot) (derivs : List Deriv) : Type 0 where
  pub rooms : length derivs ≡ length potentials
  pub derived : (i : ℕ) (p : Pot) (d : Deriv) → slice_get potentials i ≡ Some p → slice_get derivs i ≡ Some d → IsDerived task p d
  pub from : (p : Pot) → Contains potentials p → (i : ℕ) × (i < n) × ((d : Derived) × (slice_get items i ≡ Some d) × (pot_of d ≡ p))
  pub least : (p : Pot) → Contains potentials p → (j : ℕ) (e : Derived) → slice_get items j ≡ Some e → IsOfPair (pot_of e) p.root p.state → IsCappedAtMost p.weight e.weight
  pub all : (i : ℕ) (d : Derived) → i < n → slice_get items i ≡ Some d → HasPair potentials (pot_of d)

trichotomy : (i n : ℕ) → (i < n) ⊎ ((i ≡ n) ⊎ (n < i))
trichotomy i n = elim (cases_lt i n) as (λ v. (i < n) ⊎ ((i ≡ n) ⊎ (n < i))) [
  | inl a ↦ inl a
  | inr b ↦ elim (cases_lt n i) as (λ v. (i < n) ⊎ ((i ≡ n) ⊎ (n < i))) [ inl a ↦ inr (inr a) | inr c ↦ inr (inl (omega arith)) ]
]

-- each pot of the table is that of an item
pub item_of : (xs items : List Derived) (pots : List Pot) → map pot_of xs ≡ pots → IsPermutation xs items → (q : Pot) → Contains pots q → (i : ℕ) × ((d : Derived) × (slice_get items i ≡ Some d) × (pot_of d ≡ q))
item_of xs items pots seen moved q c = go (at_contains (map pot_of items) q (Contains-permutation (map pot_of xs) (map pot_of items) q (IsPermutation-map pot_of xs items moved) (subst (λ l. Contains l q) (sym seen) c)))
  where
    go : (i : ℕ) × (i < length (map pot_of items)) × (slice_get (map pot_of items) i ≡ Some q) → (i : ℕ) × ((d : Derived) × (slice_get items i ≡ Some d) × (pot_of d ≡ q))
    go at =
        let found : (d : Derived) × (slice_get items at.0 ≡ Some d) = stands items at.0 (omega (arith, at.1, length-map items pot_of)) in
        let mapped : slice_get (map pot_of items) at.0 ≡ Some (pot_of found.0) = slice_get-map pot_of items at.0 ∙ ap (option_map pot_of) found.1 in
        (at.0, (found.0, found.1, same_at (map pot_of items) at.0 (pot_of found.0) q mapped at.2))

module _ (task : Task) (items : List Derived) (order : AreInOrder items) (kept : All (IsKept task) items) where
  pub gathering_begun : (ps : List Pot) (ds : List Deriv) → ps ≡ [] → ds ≡ [] → IsGathering task items 0 ps ds
  gathering_begun ps ds e f = record {
    rooms = ap length f ∙ sym (ap length e);
    derived = λ i p d a b. absurd (none_at i p (subst (λ v. slice_get v i ≡ Some p) e a));
    from = λ p c. absurd (none_in p (subst (λ v. Contains v p) e c));
    least = λ p c. absurd (none_in p (subst (λ v. Contains v p) e c));
    all = λ i d l. absurd (omega (arith, l));
  }

  pub gathering_ended : (pots : List Pot) → ((q : Pot) → Contains pots q → (i : ℕ) × ((d : Derived) × (slice_get items i ≡ Some d) × (pot_of d ≡ q))) → (ps : List Pot) (ds : List Deriv)
      → IsGathering task items (length items) ps ds → IsGathered task pots ps ds
  gathering_ended pots back ps ds is = record {
    rooms = is.rooms;
    derived = is.derived;
    least = λ p c q l same.
        let at : (i : ℕ) × ((d : Derived) × (slice_get items i ≡ Some d) × (pot_of d ≡ q)) = back q l in
        subst (λ v. IsCappedAtMost p.weight v.weight) at.1.2 (is.least p c at.0 at.1.0 at.1.1 (subst (λ v. IsOfPair v p.root p.state) (sym at.1.2) same));
    all = λ q l.
        let at : (i : ℕ) × ((d : Derived) × (slice_get items i ≡ Some d) × (pot_of d ≡ q)) = back q l in
        subst (λ v. HasPair ps v) at.1.2 (is.all at.0 at.1.0 (slice_get-below items at.0 at.1.0 at.1.1) at.1.1);
  }

  module _ (n : ℕ) (ps : List Pot) (ds : List Deriv) (is : IsGathering task items n ps ds) (d : Derived) (at : slice_get items n ≡ Some d) where
    -- a listed pot of the pair stands just before
    repeats_from : (p : Pot) → Contains ps p → IsOfPair p d.root d.state → Repeats items n
    repeats_from p c same = go (is.from p c)
      where
        go : (i : ℕ) × (i < n) × ((e : Derived) × (slice_get items i ≡ Some e) × (pot_of e ≡ p)) → Repeats items n
        go f =
            let m : ℕ = n - 1 in
            let below : m < length items = omega (arith, f.1, slice_get-below items n d at) in
            let b : (e : Derived) × (slice_get items m ≡ Some e) = stands items m below in
            let first : IsOfPair (pot_of f.2.0) d.root d.state = subst (λ v. IsOfPair v d.root d.state) (sym f.2.2) same in
            record {
              number = m;
              next = omega (arith, f.1);
              before = b.0;
              item = d;
              stands_before = b.1;
              stands = at;
              same = elim (number_cases f.0 m (omega (arith, f.1))) as (λ v. IsOfPair (pot_of b.0) d.root d.state) [
                | inl l ↦ between_same (pot_of f.2.0) (pot_of b.0) (pot_of d) (order f.0 m f.2.0 b.0 l f.2.1 b.1) (order m n b.0 d (omega (arith, f.1)) b.1 at) first
                | inr e ↦ subst (λ v. IsOfPair (pot_of v) d.root d.state) (same_at items m f.2.0 b.0 (subst (λ i. slice_get items i ≡ Some f.2.0) e f.2.1) b.1) first
              ];
            }

    pub above_last : (Repeats items n → ⊥) → IsAboveLast ps d.root d.state
    above_last fresh i p last here = go (is.from p (contains_at ps i p here))
      where
        go : (k : ℕ) × (k < n) × ((e : Derived) × (slice_get items k ≡ Some e) × (pot_of e ≡ p)) → IsBelow p.root p.state d.root d.state
        go f = elim (subst (λ v. Precedes v (pot_of d)) f.2.2 (order f.0 n f.2.0 d f.1 f.2.1 at)) as (λ v. IsBelow p.root p.state d.root d.state) [
          | inl b ↦ b
          | inr s ↦ absurd (fresh (repeats_from p (contains_at ps i p here) s.0))
        ]

    has_same : (p q : Pot) → IsOfPair p q.root q.state → HasPair ps p → HasPair ps q
    has_same p q same h = (h.0, subst (λ r. Contains ps (pot r q.state h.0)) same.0 (subst (λ y. Contains ps (pot p.root y h.0)) same.1 h.1))

    skipped : Repeats items n → IsGathering task items (n + 1) ps ds
    skipped r = record {
      rooms = is.rooms;
      derived = is.derived;
      from = λ p c. let f : (i : ℕ) × (i < n) × ((e : Derived) × (slice_get items i ≡ Some e) × (pot_of e ≡ p)) = is.from p c in (f.0, omega (arith, f.1), f.2);
      least = is.least;
      all = λ i e l x. elim (number_cases i n l) as (λ v. HasPair ps (pot_of e)) [
        | inl a ↦ is.all i e a x
        | inr b ↦ has_same (pot_of r.before) (pot_of e)
            (subst (λ v. IsOfPair (pot_of r.before) v.root v.state) (same_at items n r.item e r.stands (subst (λ k. slice_get items k ≡ Some e) b x)) r.same)
            (is.all r.number r.before (omega (arith, r.next)) r.stands_before)
      ];
    }

    module _ (fresh : Repeats items n → ⊥) where
      derived_there : (i : ℕ) (p : Pot) (e : Deriv) → (slice_get ps i ≡ Some p) ⊎ (i ≡ length ps) × (p ≡ pot_of d) → (slice_get ds i ≡ Some e) ⊎ (i ≡ length ds) × (e ≡ d.deriv.now) → IsDerived task p e
      derived_there i p e (inl x) (inl y) = is.derived i p e x y
      derived_there i p e (inl x) (inr y) = absurd (omega (arith, is.rooms, slice_get-below ps i p x, y.0))
      derived_there i p e (inr x) (inl y) = absurd (omega (arith, is.rooms, slice_get-below ds i e y, x.0))
      derived_there i p e (inr x) (inr y) = subst (λ v. IsDerived task v e) (sym x.1) (subst (λ v. IsDerived task (pot_of d) v) (sym y.1) (kept_at n d at))
        where
          kept_at : (k : ℕ) (v : Derived) → slice_get items k ≡ Some v → IsKept task v
          kept_at k v s = All-contains (IsKept task) items v kept (contains_at items k v s)

      least_there : (j : ℕ) (e : Derived) → slice_get items j ≡ Some e → IsOfPair (pot_of e) d.root d.state → IsCappedAtMost d.weight e.weight
      least_there j e x same = elim (trichotomy j n) as (λ v. IsCappedAtMost d.weight e.weight) [
        | inl l ↦
            let h : HasPair ps (pot_of e) = is.all j e l x in
            absurd (fresh (repeats_from (pot e.root e.state h.0) h.1 same))
        | inr m ↦ elim m as (λ v. IsCappedAtMost d.weight e.weight) [
          | inl s ↦ subst (λ v. IsCappedAtMost d.weight v.weight) (same_at items n d e at (subst (λ k. slice_get items k ≡ Some e) s x)) (at_most-same d.weight)
          | inr l ↦ elim (order n j d e l at x) as (λ v. IsCappedAtMost d.weight e.weight) [
            | inl b ↦ absurd (never_below (pot_of d) e.root e.state (sym same.0, sym same.1) b)
            | inr s ↦ s.1
          ]
        ]
      ]

      appended : IsGathering task items (n + 1) (ps ++ pot_of d ∷ []) (ds ++ d.deriv.now ∷ [])
      appended = record {
        rooms = length-append ds (d.deriv.now ∷ []) ∙ ap (λ v. v + 1) is.rooms ∙ sym (length-append ps (pot_of d ∷ []));
        derived = λ i p e x y. derived_there i p e (pushed_at ps (pot_of d) i p x) (pushed_at ds d.deriv.now i e y);
        from = λ p c. elim (Contains-push_cases ps (pot_of d) p c) as (λ v. (i : ℕ) × (i < n + 1) × ((e : Derived) × (slice_get items i ≡ Some e) × (pot_of e ≡ p))) [
          | inl x ↦ let f : (i : ℕ) × (i < n) × ((e : Derived) × (slice_get items i ≡ Some e) × (pot_of e ≡ p)) = is.from p x in (f.0, omega (arith, f.1), f.2)
          | inr e ↦ (n, omega arith, (d, at, e))
        ];
        least = λ p c j e x same. elim (Contains-push_cases ps (pot_of d) p c) as (λ v. IsCappedAtMost p.weight e.weight) [
          | inl y ↦ is.least p y j e x same
          | inr f ↦ subst (λ v. IsCappedAtMost v.weight e.weight) f (least_there j e x (subst (λ v. IsOfPair (pot_of e) v.root v.state) (sym f) same))
        ];
        all = λ i e l x. elim (number_cases i n l) as (λ v. HasPair (ps ++ pot_of d ∷ []) (pot_of e)) [
          | inl a ↦ let h : HasPair ps (pot_of e) = is.all i e a x in (h.0, Contains-append_left ps (pot_of d ∷ []) (pot e.root e.state h.0) h.1)
          | inr b ↦ subst (λ v. HasPair (ps ++ pot_of d ∷ []) (pot_of v)) (same_at items n d e at (subst (λ k. slice_get items k ≡ Some e) b x)) (d.weight, Contains-push ps (pot_of d))
        ];
      }

  pub gathering_turn : (n : ℕ) (old new : Settled) → IsGathering task items n (potentials_of old) (derivs_of old) → Lists items n old new → IsGathering task items (n + 1) (potentials_of new) (derivs_of new)
  gathering_turn n old new is lists = go lists
    where
      seen : (ps : List Pot) (ds : List Deriv) → potentials_of new ≡ ps → derivs_of new ≡ ds → IsGathering task items (n + 1) ps ds → IsGathering task items (n + 1) (potentials_of new) (derivs_of new)
      seen ps ds f g h = subst (λ v. IsGathering task items (n + 1) v (derivs_of new)) (sym f) (subst (λ v. IsGathering task items (n + 1) ps v) (sym g) h)

      go : Lists items n old new → IsGathering task items (n + 1) (potentials_of new) (derivs_of new)
      go (inl s) = seen (potentials_of old) (derivs_of old) s.1.potentials s.1.derivs (skipped n (potentials_of old) (derivs_of old) is s.0.item s.0.stands s.0)
      go (inr s) = seen (potentials_of old ++ pot_of s.1.0 ∷ []) (derivs_of old ++ s.1.0.deriv.now ∷ []) s.1.2.potentials s.1.2.derivs
          (appended n (potentials_of old) (derivs_of old) is s.1.0 s.1.1 s.0)

-- ---- the end of the search

abbrev task_of : MachineValue → List StateNo → Task
task_of m starts = record { machine = m; starts = starts }

pub settled_of : (m : MachineValue) (starts : List StateNo) (task : Task) (pots : List Pot) (s : Settled) → task ≡ record { machine = m; starts = starts } → IsComplete m.steps starts pots
    → IsGathered task pots (potentials_of s) (derivs_of s) → IsSettledOf m starts s
settled_of m starts task pots s same complete gathered = record {
  potentials = record {
    least = λ p c. is_least p (at_contains (potentials_of s) p c);
    all = λ root state reached.
        let covered : IsCovered pots (pot root state _) = complete root reached.0 state reached.1 in
        is.all (pot root state covered.weight) covered.listed;
  };
  rooms = is.rooms;
  derived = λ i p d x y.
      let from : IsDerived (task_of m starts) p d = is.derived i p d x y in
      record {
        over = from.over;
        segment = derived_segment (task_of m starts) p d from;
        weight = derived_weight (task_of m starts) p d from ∙ sym from.weight;
        least = subst (λ w. IsLeast m.steps starts p.root p.state w) (sym from.weight) (least_at p d (contains_at (potentials_of s) i p x) from);
      };
}
  where
    is : IsGathered (task_of m starts) pots (potentials_of s) (derivs_of s)
    is = subst (λ t. IsGathered t pots (potentials_of s) (derivs_of s)) same gathered

    least_at : (p : Pot) (d : Deriv) → Contains (potentials_of s) p → IsDerived (task_of m starts) p d → IsLeast m.steps starts p.root p.state p.weight
    least_at p d c from = least_derived (task_of m starts) pots p.root p.state p.weight d complete from (is.least p c)

    is_least : (p : Pot) → (i : ℕ) × (i < length (potentials_of s)) × (slice_get (potentials_of s) i ≡ Some p) → IsLeast m.steps starts p.root p.state p.weight
    is_least p at =
        let beside : (d : Deriv) × (slice_get (derivs_of s) at.0 ≡ Some d) = stands (derivs_of s) at.0 (omega (arith, is.rooms, at.1)) in
        least_at p beside.0 (contains_at (potentials_of s) at.0 p at.2) (is.derived at.0 p beside.0 at.2 beside.1)

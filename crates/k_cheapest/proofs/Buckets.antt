-- Buckets of sets, into one of which a set goes, or out of which one comes.
use Rattle.std.proofs.Common.{◌≡◌, List, [], ◌∷◌, ◌++◌, map, refl, sym, ◌∙◌, ap, subst, inl, inr, append_assoc, Contains, Option, Some, None}
use Rattle.std.specs.Prelude.{Bool, true, false, cond}
use Rattle.std.specs.List.{All}
use Rattle.std.specs.Map.{lookup, set_value, keys_of}
use Rattle.std.specs.BTreeMap.{insert_entry, is_at}
use Rattle.std.specs.BTreeMap.Range.{IsLtBy}
use Rattle.std.specs.Ordering.{is_eq, match_ordering}
use Rattle.std.specs.declared.cmp.Ordering.{Ordering}
use Rattle.std.specs.declared.cmp.Ordering.TheVariants.{Less, Equal, Greater}
use Rattle.std.specs.List.Sorted.{IsPermutation}
use Rattle.std.proofs.lemmas.List.{map-append}
use Rattle.std.proofs.lemmas.List.Elements.{Contains-append_cases, All-contains}
use Rattle.std.proofs.lemmas.List.Sorted.{IsPermutation-refl, IsPermutation-sym, IsPermutation-trans, IsPermutation-to_front, IsPermutation-append_comm, IsPermutation-append_left, IsPermutation-append_right, Contains-permutation}
use Rattle.ml_base.specs.contracts.weight.WeightOrd.TheImpl.{ghosts}
use Rattle.ml_base.specs.declared.weight.Weight.{Weight}
use Rattle.ml_base.specs.Weight.{IsCappedAtMost}
use Rattle.ml_base.proofs.Laws.{at_most-same}
use Rattle.k_cheapest.specs.declared.item.Item.{Item}
use Rattle.k_cheapest.specs.declared.queue.Open.{Open}
use Rattle.k_cheapest.specs.declared.queue.Bucket.{Bucket}
use Rattle.k_cheapest.specs.Buckets.{opens_of, weighing, weighed, waiting_in, IsAbsent}
use Rattle.k_cheapest.specs.Items.{Takes}
use Rattle.k_cheapest.proofs.Heads.{none_in, first_in, later_in, cons_cases}
use Rattle.k_cheapest.proofs.Ordering.{before_at_most, same_place}

-- what goes in behind others
goes_behind : (xs before old new : List Item) → IsPermutation (xs ++ old) new → IsPermutation (xs ++ (before ++ old)) (before ++ new)
goes_behind xs before old new moved =
    subst (λ l. IsPermutation l (before ++ new)) (append_assoc xs before old)
    (IsPermutation-trans ((xs ++ before) ++ old) ((before ++ xs) ++ old) (before ++ new) (IsPermutation-append_left old (xs ++ before) (before ++ xs) (IsPermutation-append_comm xs before))
    (subst (λ l. IsPermutation l (before ++ new)) (sym (append_assoc before xs old)) (IsPermutation-append_right before (xs ++ old) new moved)))

not_none : {b : Bucket} → Some b ≡ None → ⊥
not_none e = cc

same_bucket : (a b : Bucket) → Some a ≡ Some b → a ≡ b
same_bucket a b e = cc

equal_weight : (w q : Weight) → is_eq (ghosts.cmp w q) ≡ true → w ≡ q
equal_weight w q e = by_order (ghosts.cmp w q) refl e where
  by_order : (o : Ordering) → ghosts.cmp w q ≡ o → is_eq o ≡ true → w ≡ q
  by_order Less at e = absurd (cc)
  by_order Equal at e = same_place w q at
  by_order Greater at e = absurd (cc)

-- a set into a bucket that is there
module _ (w : Weight) (old new : Bucket) (o : Open) (grown : opens_of new ≡ opens_of old ++ o ∷ []) where
  weighed_more : (q : Weight) → weighed q new ≡ weighed q old ++ weighing q o ∷ []
  weighed_more q = ap (λ l. map (λ v. weighing q v) l) grown ∙ map-append (λ v. weighing q v) (opens_of old) (o ∷ [])

  goes_in : (q : Weight) → w ≡ q → IsPermutation (weighing w o ∷ weighed q old) (weighed q new)
  goes_in q e = subst (λ l. IsPermutation (weighing w o ∷ weighed q old) l) (sym (weighed_more q))
      (subst (λ v. IsPermutation (weighing v o ∷ weighed q old) (weighed q old ++ weighing q o ∷ [])) (sym e)
      (IsPermutation-sym (weighed q old ++ weighing q o ∷ []) (weighing q o ∷ weighed q old) (IsPermutation-to_front (weighed q old) (weighing q o))))

  put_by : (e : Weight × Bucket) (es after : List (Weight × Bucket)) (b : Bool) → (b ≡ true → w ≡ e.0) → (b ≡ true → e.1 ≡ old) → (b ≡ false → IsPermutation (weighing w o ∷ waiting_in es) (waiting_in after))
      → IsPermutation (weighing w o ∷ waiting_in (e ∷ es)) (waiting_in (cond b ((e.0, new) ∷ es) (e ∷ after)))
  put_by e es after true same here further = subst (λ a. IsPermutation (weighing w o ∷ (weighed e.0 a ++ waiting_in es)) (weighed e.0 new ++ waiting_in es)) (sym (here refl))
      (IsPermutation-append_left (waiting_in es) (weighing w o ∷ weighed e.0 old) (weighed e.0 new) (goes_in e.0 (same refl)))
  put_by e es after false same here further = goes_behind (weighing w o ∷ []) (weighed e.0 e.1) (waiting_in es) (waiting_in after) (further refl)

  pub put_in : (es : List (Weight × Bucket)) → lookup (is_at (ghosts.cmp w)) es ≡ Some old → IsPermutation (weighing w o ∷ waiting_in es) (waiting_in (set_value (is_at (ghosts.cmp w)) es new))
  put_in [] found = absurd (not_none (sym found))
  put_in (e ∷ es) found = put_by e es (set_value (is_at (ghosts.cmp w)) es new) (is_eq (ghosts.cmp w e.0)) (equal_weight w e.0)
      (λ t. same_bucket e.1 old (subst (λ v. cond v (Some e.1) (lookup (is_at (ghosts.cmp w)) es) ≡ Some old) t found))
      (λ f. put_in es (subst (λ v. cond v (Some e.1) (lookup (is_at (ghosts.cmp w)) es) ≡ Some old) f found))

-- a bucket among others
module _ (w : Weight) (new : Bucket) where
  opened_by : (e : Weight × Bucket) (es after : List (Weight × Bucket)) (o : Ordering) → (is_eq o ≡ true → ⊥) → IsPermutation (weighed w new ++ waiting_in es) (waiting_in after)
      → IsPermutation (weighed w new ++ waiting_in (e ∷ es)) (waiting_in (match_ordering o ((w, new) ∷ e ∷ es) ((e.0, new) ∷ es) (e ∷ after)))
  opened_by e es after Less apart further = IsPermutation-refl (weighed w new ++ waiting_in (e ∷ es))
  opened_by e es after Equal apart further = absurd (apart refl)
  opened_by e es after Greater apart further = goes_behind (weighed w new) (weighed e.0 e.1) (waiting_in es) (waiting_in after) further

  is_apart : (b : Bool) (v : Bucket) (m : Option Bucket) → cond b (Some v) m ≡ None → b ≡ true → ⊥
  is_apart true v m none e = not_none none
  is_apart false v m none e = cc

  is_further : (b : Bool) (v : Bucket) (m : Option Bucket) → cond b (Some v) m ≡ None → m ≡ None
  is_further true v m none = absurd (not_none none)
  is_further false v m none = none

  pub opened : (es : List (Weight × Bucket)) → IsAbsent w es → IsPermutation (weighed w new ++ waiting_in es) (waiting_in (insert_entry ghosts.cmp es w new))
  opened [] none = IsPermutation-refl (weighed w new ++ [])
  opened (e ∷ es) none = opened_by e es (insert_entry ghosts.cmp es w new) (ghosts.cmp w e.0)
      (is_apart (is_eq (ghosts.cmp w e.0)) e.1 (lookup (is_at (ghosts.cmp w)) es) none)
      (opened es (is_further (is_eq (ghosts.cmp w e.0)) e.1 (lookup (is_at (ghosts.cmp w)) es) none))

-- a set that is alone in its bucket
pub opened_alone : (w : Weight) (new : Bucket) (o : Open) → opens_of new ≡ o ∷ [] → (es : List (Weight × Bucket)) → IsAbsent w es
    → IsPermutation (weighing w o ∷ waiting_in es) (waiting_in (insert_entry ghosts.cmp es w new))
opened_alone w new o alone es none =
    subst (λ l. IsPermutation (l ++ waiting_in es) (waiting_in (insert_entry ghosts.cmp es w new))) (ap (λ l. map (λ v. weighing w v) l) alone) (opened w new es none)

-- the last of a bucket is taken out, and the others are put back
pub taken_last : (w : Weight) (old new : Bucket) (o : Open) → opens_of old ≡ opens_of new ++ o ∷ [] → (es after : List (Weight × Bucket)) → IsPermutation (weighed w new ++ waiting_in es) (waiting_in after)
    → IsPermutation (weighed w old ++ waiting_in es) (weighing w o ∷ waiting_in after)
taken_last w old new o grown es after moved =
    subst (λ l. IsPermutation (l ++ waiting_in es) (weighing w o ∷ waiting_in after)) (sym (weighed_more w new old o grown w))
    (IsPermutation-trans ((weighed w new ++ weighing w o ∷ []) ++ waiting_in es) ((weighing w o ∷ weighed w new) ++ waiting_in es) (weighing w o ∷ waiting_in after)
    (IsPermutation-append_left (waiting_in es) (weighed w new ++ weighing w o ∷ []) (weighing w o ∷ weighed w new) (IsPermutation-to_front (weighed w new) (weighing w o)))
    (IsPermutation-append_right (weighing w o ∷ []) (weighed w new ++ waiting_in es) (waiting_in after) moved))

-- What is in the first bucket is lightest.

weighs : (w : Weight) (os : List Open) (j : Item) → Contains (map (λ o. weighing w o) os) j → w ≡ j.weight
weighs w [] j c = absurd (none_in j c)
weighs w (o ∷ os) j c = elim (cons_cases (weighing w o) (map (λ v. weighing w v) os) j c) [
  | inl e ↦ ap (λ v. v.weight) e
  | inr later ↦ weighs w os j later
]

above : (w : Weight) (es : List (Weight × Bucket)) → ((q : Weight) → Contains (keys_of es) q → IsCappedAtMost w q) → (j : Item) → Contains (waiting_in es) j → IsCappedAtMost w j.weight
above w [] up j c = absurd (none_in j c)
above w (e ∷ es) up j c = elim (Contains-append_cases (weighed e.0 e.1) (waiting_in es) j c) as (λ v. IsCappedAtMost w j.weight) [
  | inl here ↦ subst (λ v. IsCappedAtMost w v) (weighs e.0 (opens_of e.1) j here) (up e.0 (first_in e.0 (keys_of es)))
  | inr later ↦ above w es (λ q d. up q (later_in e.0 (keys_of es) q d)) j later
]

pub first_taken : (w : Weight) (bucket : Bucket) (old rest after : List (Weight × Bucket)) (o : Open) → old ≡ (w, bucket) ∷ rest → All (IsLtBy ghosts.cmp w) (keys_of rest)
    → IsPermutation (weighed w bucket ++ waiting_in rest) (weighing w o ∷ waiting_in after) → Takes (waiting_in old) (weighing w o) (waiting_in after)
first_taken w bucket old rest after o e up moved = subst (λ l. Takes (waiting_in l) (weighing w o) (waiting_in after)) (sym e) (record {
  waited = Contains-permutation (weighing w o ∷ waiting_in after) (waiting_in ((w, bucket) ∷ rest)) (weighing w o) (IsPermutation-sym (waiting_in ((w, bucket) ∷ rest)) (weighing w o ∷ waiting_in after) moved)
      (first_in (weighing w o) (waiting_in after));
  only = λ j c. Contains-permutation (weighing w o ∷ waiting_in after) (waiting_in ((w, bucket) ∷ rest)) j (IsPermutation-sym (waiting_in ((w, bucket) ∷ rest)) (weighing w o ∷ waiting_in after) moved)
      (later_in (weighing w o) (waiting_in after) j c);
  rest = λ j c. cons_cases (weighing w o) (waiting_in after) j (Contains-permutation (waiting_in ((w, bucket) ∷ rest)) (weighing w o ∷ waiting_in after) j moved c);
  least = λ j c. elim (Contains-append_cases (weighed w bucket) (waiting_in rest) j c) as (λ v. IsCappedAtMost w j.weight) [
    | inl here ↦ subst (λ v. IsCappedAtMost w v) (weighs w (opens_of bucket) j here) (at_most-same w)
    | inr later ↦ above w rest (λ q d. before_at_most w q (All-contains (IsLtBy ghosts.cmp w) (keys_of rest) q up d)) j later
  ];
})

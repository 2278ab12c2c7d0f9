-- Buckets of candidates, into one of which a candidate goes, or out of which one comes.
use Rattle.std.proofs.Common.{arith, ◌≡◌, ◌↔◌, ℕ, IsTrue, length, List, [], ◌∷◌, ◌++◌, refl, sym, ◌∙◌, ap, subst, Option, Some, None}
use Rattle.std.specs.Prelude.{Bool, true, false, cond}
use Rattle.std.specs.Bool.{◌==◌}
use Rattle.std.proofs.lemmas.Grind.{common_steps}
use Rattle.std.proofs.lemmas.List.{nil_from_length}
use Rattle.std.specs.Map.{lookup, set_value}
use Rattle.std.specs.BTreeMap.{insert_entry, is_at}
use Rattle.std.specs.Ordering.{is_eq, match_ordering}
use Rattle.std.specs.declared.cmp.Ordering.{Ordering}
use Rattle.std.specs.declared.cmp.Ordering.TheVariants.{Less, Equal, Greater}
use Rattle.std.specs.List.Sorted.{IsPermutation}
use Rattle.std.proofs.lemmas.List.Sorted.{IsPermutation-refl, IsPermutation-sym, IsPermutation-trans, IsPermutation-middle, IsPermutation-to_front, IsPermutation-append_left, IsPermutation-append_right}
use Rattle.ml_base.specs.declared.weight.Weight.{Weight}
use Rattle.knuth_search.specs.declared.derived.Derived.{Derived}
use Rattle.knuth_search.specs.declared.lane.Bucket.{Bucket}
use Rattle.knuth_search.specs.Buckets.{bucket_items, waiting_in, candidates_of}

-- a candidate that goes in behind others
goes_behind : (x : Derived) (before old new : List Derived) → IsPermutation (x ∷ old) new → IsPermutation (x ∷ (before ++ old)) (before ++ new)
goes_behind x before old new moved = IsPermutation-trans (x ∷ (before ++ old)) (before ++ x ∷ old) (before ++ new)
    (IsPermutation-sym (before ++ x ∷ old) (x ∷ (before ++ old)) (IsPermutation-middle before x old)) (IsPermutation-append_right before (x ∷ old) new moved)

not_none : {b : Bucket} → Some b ≡ None → ⊥
not_none e = cc

same_bucket : (a b : Bucket) → Some a ≡ Some b → a ≡ b
same_bucket a b e = cc

-- into a bucket that is there
module _ (test : Weight → Bool) (old new : Bucket) (x : Derived) (grown : bucket_items new ≡ bucket_items old ++ x ∷ []) where
  goes_in : IsPermutation (x ∷ bucket_items old) (bucket_items new)
  goes_in = subst (λ l. IsPermutation (x ∷ bucket_items old) l) (sym grown)
      (IsPermutation-sym (bucket_items old ++ x ∷ []) (x ∷ bucket_items old) (IsPermutation-to_front (bucket_items old) x))

  put_by : (e : Weight × Bucket) (es after : List (Weight × Bucket)) (b : Bool) → (b ≡ true → e.1 ≡ old) → (b ≡ false → IsPermutation (x ∷ waiting_in es) (waiting_in after))
      → IsPermutation (x ∷ waiting_in (e ∷ es)) (waiting_in (cond b ((e.0, new) ∷ es) (e ∷ after)))
  put_by e es after true here further = subst (λ a. IsPermutation (x ∷ (bucket_items a ++ waiting_in es)) (bucket_items new ++ waiting_in es)) (sym (here refl))
      (IsPermutation-append_left (waiting_in es) (x ∷ bucket_items old) (bucket_items new) goes_in)
  put_by e es after false here further = goes_behind x (bucket_items e.1) (waiting_in es) (waiting_in after) (further refl)

  pub put_in : (es : List (Weight × Bucket)) → lookup test es ≡ Some old → IsPermutation (x ∷ waiting_in es) (waiting_in (set_value test es new))
  put_in [] found = absurd (not_none (sym found))
  put_in (e ∷ es) found = put_by e es (set_value test es new) (test e.0)
      (λ t. same_bucket e.1 old (subst (λ v. cond v (Some e.1) (lookup test es) ≡ Some old) t found))
      (λ f. put_in es (subst (λ v. cond v (Some e.1) (lookup test es) ≡ Some old) f found))

-- a bucket that has what it had
module _ (test : Weight → Bool) (old new : Bucket) (same : bucket_items new ≡ bucket_items old) where
  kept_by : (e : Weight × Bucket) (es after : List (Weight × Bucket)) (b : Bool) → (b ≡ true → e.1 ≡ old) → (b ≡ false → waiting_in after ≡ waiting_in es)
      → waiting_in (cond b ((e.0, new) ∷ es) (e ∷ after)) ≡ waiting_in (e ∷ es)
  kept_by e es after true here further = ap (λ l. l ++ waiting_in es) (same ∙ sym (ap (λ b. bucket_items b) (here refl)))
  kept_by e es after false here further = ap (λ l. bucket_items e.1 ++ l) (further refl)

  pub kept_in : (es : List (Weight × Bucket)) → lookup test es ≡ Some old → waiting_in (set_value test es new) ≡ waiting_in es
  kept_in [] found = refl
  kept_in (e ∷ es) found = kept_by e es (set_value test es new) (test e.0)
      (λ t. same_bucket e.1 old (subst (λ v. cond v (Some e.1) (lookup test es) ≡ Some old) t found))
      (λ f. kept_in es (subst (λ v. cond v (Some e.1) (lookup test es) ≡ Some old) f found))

-- into a bucket of its own
module _ (cmp : Weight → Weight → Ordering) (weight : Weight) (new : Bucket) (x : Derived) (alone : bucket_items new ≡ x ∷ []) where
  in_front : (rest : List Derived) → IsPermutation (x ∷ rest) (bucket_items new ++ rest)
  in_front rest = subst (λ l. IsPermutation (x ∷ rest) (l ++ rest)) (sym alone) (IsPermutation-refl (x ∷ rest))

  opened_by : (e : Weight × Bucket) (es after : List (Weight × Bucket)) (o : Ordering) → (is_eq o ≡ true → ⊥) → IsPermutation (x ∷ waiting_in es) (waiting_in after)
      → IsPermutation (x ∷ waiting_in (e ∷ es)) (waiting_in (match_ordering o ((weight, new) ∷ e ∷ es) ((e.0, new) ∷ es) (e ∷ after)))
  opened_by e es after Less apart further = in_front (waiting_in (e ∷ es))
  opened_by e es after Equal apart further = absurd (apart refl)
  opened_by e es after Greater apart further = goes_behind x (bucket_items e.1) (waiting_in es) (waiting_in after) further

  is_apart : (b : Bool) (v : Bucket) (m : Option Bucket) → cond b (Some v) m ≡ None → b ≡ true → ⊥
  is_apart true v m none e = not_none none
  is_apart false v m none e = cc

  is_further : (b : Bool) (v : Bucket) (m : Option Bucket) → cond b (Some v) m ≡ None → m ≡ None
  is_further true v m none = absurd (not_none none)
  is_further false v m none = none

  pub opened : (es : List (Weight × Bucket)) → lookup (is_at (cmp weight)) es ≡ None → IsPermutation (x ∷ waiting_in es) (waiting_in (insert_entry cmp es weight new))
  opened [] none = in_front []
  opened (e ∷ es) none = opened_by e es (insert_entry cmp es weight new) (cmp weight e.0)
      (is_apart (is_eq (cmp weight e.0)) e.1 (lookup (is_at (cmp weight)) es) none)
      (opened es (is_further (is_eq (cmp weight e.0)) e.1 (lookup (is_at (cmp weight)) es) none))

-- what goes into the buckets goes into the lane
pub into_lane : (left : List Derived) (old new : List (Weight × Bucket)) (x : Derived) → IsPermutation (x ∷ waiting_in old) (waiting_in new) → IsPermutation (x ∷ candidates_of left old) (candidates_of left new)
into_lane left old new x moved = goes_behind x left (waiting_in old) (waiting_in new) moved

pub lane_kept : (left : List Derived) (old new : List (Weight × Bucket)) → waiting_in new ≡ waiting_in old → candidates_of left new ≡ candidates_of left old
lane_kept left old new same = ap (λ l. left ++ l) same

-- out of what is left of a bucket
pub out_of_left : (old new : List Derived) (buckets : List (Weight × Bucket)) (x : Derived) → old ≡ new ++ x ∷ [] → IsPermutation (candidates_of old buckets) (x ∷ candidates_of new buckets)
out_of_left old new buckets x e = subst (λ l. IsPermutation (l ++ waiting_in buckets) (x ∷ (new ++ waiting_in buckets))) (sym e)
    (IsPermutation-append_left (waiting_in buckets) (new ++ x ∷ []) (x ∷ new) (IsPermutation-to_front new x))

-- out of the first of the others
pub out_of_first : (left : List Derived) (old new : List (Weight × Bucket)) (first : Weight × Bucket) → left ≡ [] → old ≡ first ∷ new
    → IsPermutation (candidates_of left old) (first.1.first ∷ candidates_of first.1.more.items new)
out_of_first left old new first e f = subst (λ l. IsPermutation (l ++ waiting_in old) (bucket_items first.1 ++ waiting_in new)) (sym e)
    (subst (λ l. IsPermutation (waiting_in l) (bucket_items first.1 ++ waiting_in new)) (sym f) (IsPermutation-refl (waiting_in (first ∷ new))))

-- nothing waits where there are no buckets and nothing is left, and only there
pub none_waits : (left : List Derived) (buckets : List (Weight × Bucket)) → left ≡ [] → buckets ≡ [] → candidates_of left buckets ≡ []
none_waits left buckets e f = ap (λ l. l ++ waiting_in buckets) e ∙ ap (λ l. waiting_in l) f

pub none_left : (left : List Derived) (buckets : List (Weight × Bucket)) → candidates_of left buckets ≡ [] → left ≡ []
none_left [] buckets e = refl
none_left (x ∷ left) buckets e = cc

pub no_buckets : (left : List Derived) (buckets : List (Weight × Bucket)) → candidates_of left buckets ≡ [] → buckets ≡ []
no_buckets [] [] e = refl
no_buckets [] (b ∷ buckets) e = cc
no_buckets (x ∷ left) buckets e = cc

not_true : (r : Bool) → r ≡ false → IsTrue r → ⊥
not_true true f t = cc
not_true false f t = cc

is_zero : (n : ℕ) → n ≡ 0 → (n == 0) ≡ true
is_zero n e = ap (λ m. m == 0) e

-- whether nothing waits, from whether anything is left of the bucket that was opened last, and whether there are others
module _ (left : List Derived) (buckets : List (Weight × Bucket)) (waiting : List Derived) (seen : candidates_of left buckets ≡ waiting) (r : Bool) (n : ℕ) (long : n ≡ length left) where
  pub by_buckets : true ≡ (n == 0) → IsTrue r ↔ (length buckets ≡ 0) → IsTrue r ↔ (waiting ≡ [])
  by_buckets e is =
      let none : length left ≡ 0 = grind (arith, common_steps) in (
        λ t. sym seen ∙ none_waits left buckets (nil_from_length left none) (nil_from_length buckets (is.0 t)),
        λ w. is.1 (ap (λ l. length l) (no_buckets left buckets (seen ∙ w))),
      )

  pub by_left : r ≡ (n == 0) → r ≡ false → IsTrue r ↔ (waiting ≡ [])
  by_left e f = (λ t. absurd (not_true r f t), λ w. e ∙ is_zero n (long ∙ ap (λ l. length l) (none_left left buckets (seen ∙ w))))

-- Steps of a tail and of walks that are listed, as lists of numbers.
use Rattle.std.proofs.Common.{◌≡◌, ◌⊎◌, ℕ, suc, ◌+◌, ◌<◌, ◌≤◌, List, [], ◌∷◌, ◌++◌, length, refl, sym, ◌∙◌, ap, subst, inl, inr, arith, append_assoc, Some, slice_get}
use Rattle.std.specs.Prelude.{Bool, true, false, IsTrue}
use Rattle.std.proofs.lemmas.List.{map-append}
use Rattle.std.proofs.lemmas.Bool.{cases_lt}
use Rattle.std.proofs.lemmas.Option.{slice_get-get_or}
use Rattle.std.proofs.Math.ListN.{get_or}
use Rattle.segment_grammar.proofs.Places.{same_at}
use Rattle.ml_base.specs.declared.numbers.StepNo.{StepNo}
use Rattle.k_cheapest.specs.KLists.{numbers_of}

pub numbers_of-push : (ks : List StepNo) (k : StepNo) → numbers_of (ks ++ k ∷ []) ≡ numbers_of ks ++ k.0 ∷ []
numbers_of-push ks k = map-append (λ v. v.0) ks (k ∷ [])

-- lists of the same numbers are the same
pub numbers_same : (ks ls : List StepNo) → numbers_of ks ≡ numbers_of ls → ks ≡ ls
numbers_same [] [] e = refl
numbers_same [] (l ∷ ls) e = absurd (cc)
numbers_same (k ∷ ks) [] e = absurd (cc)
numbers_same (k ∷ ks) (l ∷ ls) e =
    let rest : ks ≡ ls = numbers_same ks ls (cc) in
    let number : k.0 ≡ l.0 = cc in
    let first : k ≡ l = ap (λ n. record { 0 = n }) number in
    cc

pub is_true : (b : Bool) → IsTrue b → b ≡ true
is_true true t = refl
is_true false t = cc

pub true_is : (b : Bool) → b ≡ true → IsTrue b
true_is true e = refl
true_is false e = cc

-- Lists are the same where they are as long and have the same at each place.

abbrev pub SameBelow : List StepNo → List StepNo → ℕ → Type 0
SameBelow ks ls n = (i : ℕ) (k l : StepNo) → i < n → slice_get ks i ≡ Some k → slice_get ls i ≡ Some l → k ≡ l

pub lists_same : (ks ls : List StepNo) → length ks ≡ length ls → SameBelow ks ls (length ks) → ks ≡ ls
lists_same [] [] e same = refl
lists_same [] (l ∷ ls) e same = absurd (omega arith)
lists_same (k ∷ ks) [] e same = absurd (omega arith)
lists_same (k ∷ ks) (l ∷ ls) e same =
    let first : k ≡ l = same 0 k l (omega arith) refl refl in
    let rest : ks ≡ ls = lists_same ks ls (omega arith) (λ i a b early p q. same (suc i) a b (omega arith) p q) in
    cc

pub same_more : (ks ls : List StepNo) (n : ℕ) (d e : StepNo) → n < length ks → n < length ls → get_or ks n d ≡ get_or ls n e → SameBelow ks ls n → SameBelow ks ls (n + 1)
same_more ks ls n d e kb lb here before i k l early p q = by_place (cases_lt i n) where
  by_place : (i < n) ⊎ (n ≤ i) → k ≡ l
  by_place (inl low) = before i k l low p q
  by_place (inr high) =
      let last : i ≡ n = omega arith in
      let one : k ≡ get_or ks n d = same_at ks n k (get_or ks n d) (subst (λ v. slice_get ks v ≡ Some k) last p) (slice_get-get_or ks n d kb) in
      let other : l ≡ get_or ls n e = same_at ls n l (get_or ls n e) (subst (λ v. slice_get ls v ≡ Some l) last q) (slice_get-get_or ls n e lb) in
      one ∙ here ∙ sym other

pub apart_at : (ks ls : List StepNo) (n : ℕ) (d e : StepNo) → n < length ks → n < length ls → (get_or ks n d ≡ get_or ls n e → ⊥) → ks ≡ ls → ⊥
apart_at ks ls n d e kb lb apart same =
    let one : slice_get ks n ≡ Some (get_or ks n d) = slice_get-get_or ks n d kb in
    let other : slice_get ls n ≡ Some (get_or ls n e) = slice_get-get_or ls n e lb in
    apart (same_at ks n (get_or ks n d) (get_or ls n e) one (subst (λ v. slice_get v n ≡ Some (get_or ls n e)) (sym same) other))

-- one step of a tail is collected
pub collected_more : (all done after : List ℕ) (k : ℕ) (rest left : List ℕ) → after ≡ done ++ k ∷ [] → left ≡ k ∷ rest → done ++ left ≡ all → after ++ rest ≡ all
collected_more all done after k rest left e f whole = rw e (append_assoc done (k ∷ []) rest ∙ ap (λ v. done ++ v) (sym f) ∙ whole)

-- How many elements up to one more pass a test.
use Rattle.std.proofs.Common.{◌≡◌, ◌∙◌, sym, refl, ap, ℕ, suc, ◌+◌, ◌<◌, ◌≤◌, List, [], ◌∷◌, ◌++◌, length, take, Bool, true, false, Option, Some, None, option_map, slice_get, inl, inr, ◌-◌, ◌^◌, arith, length-append}
use Rattle.std.specs.Prelude.{filter, if◌then◌else◌}
use Rattle.std.proofs.lemmas.List.{take_more, length-take}
use Rattle.std.proofs.lemmas.List.Elements.{filter-append}
use Rattle.std.proofs.lemmas.Option.{slice_get_within, slice_get_cases, get_or_from_slice_get}
use Rattle.nml_elements.specs.declared.elements.Element.{Element}
use Rattle.circuit_spec.specs.Network.{Placed}

one-item : (test : Placed → Bool) (x : Placed) → length (filter test (x ∷ [])) ≡ (if test x then 1 else 0)
one-item test x = by-test (test x) refl
  where
    by-test : (b : Bool) → test x ≡ b → length (filter test (x ∷ [])) ≡ (if test x then 1 else 0)
    by-test true e = rw e refl
    by-test false e = rw e refl

count-step : (test : Placed → Bool) (xs : List Placed) (n : ℕ) (x : Placed) → slice_get xs n ≡ Some x
    → length (filter test (take (n + 1) xs)) ≡ length (filter test (take n xs)) + (if test x then 1 else 0)
count-step test xs n x at =
    let more : take (n + 1) xs ≡ take n xs ++ x ∷ [] = take_more xs n x (slice_get_within xs n x at) ∙ ap (λ (y : Placed). take n xs ++ y ∷ []) (get_or_from_slice_get xs n x x at) in
    ap (λ (ys : List Placed). length (filter test ys)) more ∙ ap length (filter-append test (take n xs) (x ∷ []))
    ∙ length-append (filter test (take n xs)) (filter test (x ∷ [])) ∙ ap (λ (k : ℕ). length (filter test (take n xs)) + k) (one-item test x)

-- one more element is counted where it passes the test
pub count-at : (test : Element → Bool) (xs : List Placed) (n k m : ℕ) (e : Element) → option_map (λ (p : Placed). p.element) (slice_get xs n) ≡ Some e
    → k ≡ length (filter (λ (p : Placed). test p.element) (take n xs)) → m ≡ k + (if test e then 1 else 0) → m ≡ length (filter (λ (p : Placed). test p.element) (take (n + 1) xs))
count-at test xs n k m e at before now = by-item (slice_get xs n) refl at
  where
    by-item : (o : Option Placed) → slice_get xs n ≡ o → option_map (λ (p : Placed). p.element) o ≡ Some e → m ≡ length (filter (λ (p : Placed). test p.element) (take (n + 1) xs))
    by-item None s h = absurd cc
    by-item (Some x) s h =
        let same : e ≡ x.element = cc in
        let step : m ≡ length (filter (λ (p : Placed). test p.element) (take n xs)) + (if test x.element then 1 else 0) = now ∙ ap (λ (j : ℕ). j + (if test e then 1 else 0)) before ∙ ap (λ (d : Element). length (filter (λ (p : Placed). test p.element) (take n xs)) + (if test d then 1 else 0)) same in
        step ∙ sym (count-step (λ (p : Placed). test p.element) xs n x s)

-- there is an element at each number
pub count-none : (xs : List Placed) (n : ℕ) → n < length xs → option_map (λ (p : Placed). p.element) (slice_get xs n) ≡ None → ⊥
count-none xs n lt none = elim (slice_get_cases xs n).1 [
  | inl some ↦ let e : option_map (λ (p : Placed). p.element) (Some some.0) ≡ None = sym (ap (option_map (λ (p : Placed). p.element)) some.2) ∙ none in absurd cc
  | inr past ↦ absurd (omega (arith, past.0))
]

most-by : (test : Placed → Bool) (x : Placed) (xs : List Placed) (b : Bool) → test x ≡ b → length (filter test xs) ≤ length xs → length (filter test (x ∷ xs)) ≤ suc (length xs)
most-by test x xs true e rest = rw e (omega (arith, rest))
most-by test x xs false e rest = rw e (omega (arith, rest))

count-most : (test : Placed → Bool) (xs : List Placed) → length (filter test xs) ≤ length xs
count-most test [] = omega arith
count-most test (x ∷ xs) = most-by test x xs (test x) refl (count-most test xs)

-- no more pass a test than there are
pub count-within : (test : Placed → Bool) (xs : List Placed) (n k : ℕ) → n < 2 ^ 64 - 1 → k ≡ length (filter test (take n xs)) → k < 2 ^ 64 - 1
count-within test xs n k fits e = omega (arith, e, count-most test (take n xs), length-take n xs)

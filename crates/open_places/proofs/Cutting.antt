-- The part of a rising list that is in a range.
use Rattle.std.proofs.Common.{◌≡◌, ◌∙◌, refl, sym, ap, ℕ, zero, suc, ◌+◌, ◌-◌, ◌<◌, ◌≤◌, List, [], ◌∷◌, length, get_or, take, drop, Bool, true, false, cond, arith, ltb, leb}
use Rattle.std.specs.List.{AllWithin, filter}
use Rattle.std.specs.List.Sorted.{IsNonDecreasingBy, IsPartitionPoint}
use Rattle.std.proofs.lemmas.List.{get_or-drop, length-drop, take_all}
use Rattle.std.proofs.lemmas.Bool.Decides.{nat_tests}
use Rattle.label_atoms.specs.Alike.{Climbing}
use Rattle.label_sets.specs.Ranges.{is_within}

climbs_from : (low : ℕ) (xs : List ℕ) (j d : ℕ) → Climbing low xs → j < length xs → low ≤ get_or xs j d
climbs_from low [] j d c h = absurd (omega arith)
climbs_from low (x ∷ xs) zero d c h = c.0
climbs_from low (x ∷ xs) (suc j) d c h = omega (arith, climbs_from (x + 1) xs j d c.1 (omega (arith, h)), c.0)

-- labels that climb do not fall
pub climbs : (low : ℕ) (xs : List ℕ) → Climbing low xs → IsNonDecreasingBy (λ (x : ℕ). x) xs
climbs low [] c i j d le h = absurd (omega arith)
climbs low (x ∷ xs) c zero zero d le h = omega arith
climbs low (x ∷ xs) c zero (suc j) d le h = omega (arith, climbs_from (x + 1) xs j d c.1 (omega (arith, h)))
climbs low (x ∷ xs) c (suc i) zero d le h = absurd (omega arith)
climbs low (x ∷ xs) c (suc i) (suc j) d le h = climbs (x + 1) xs c.1 i j d (omega (arith, le)) (omega (arith, h))

pub climbs_dropped : (low n : ℕ) (xs : List ℕ) → Climbing low xs → (bottom : ℕ) × Climbing bottom (drop n xs)
climbs_dropped low zero xs c = (low, c)
climbs_dropped low (suc n) [] c = (low, c)
climbs_dropped low (suc n) (x ∷ xs) c = climbs_dropped (x + 1) n xs c.1

-- what fails the test in front may go
filter_dropped : {A : Type 0} (p : A → Bool) (xs : List A) (i : ℕ) → AllWithin (λ (y : A). p y ≡ false) xs 0 i → i ≤ length xs → filter p xs ≡ filter p (drop i xs)
filter_dropped p xs zero out h = refl
filter_dropped p [] (suc i) out h = refl
filter_dropped p (x ∷ xs) (suc i) out h =
    ap (λ (b : Bool). cond b (x ∷ filter p xs) (filter p xs)) (out 0 x (omega arith) (omega arith))
    ∙ filter_dropped p xs i (λ k d low lt. out (suc k) d (omega arith) (omega (arith, lt))) (omega (arith, h))

none_kept : {A : Type 0} (p : A → Bool) (xs : List A) → AllWithin (λ (y : A). p y ≡ false) xs 0 (length xs) → filter p xs ≡ []
none_kept p [] out = refl
none_kept p (x ∷ xs) out =
    ap (λ (b : Bool). cond b (x ∷ filter p xs) (filter p xs)) (out 0 x (omega arith) (omega arith))
    ∙ none_kept p xs (λ k d low lt. out (suc k) d (omega arith) (omega (arith, lt)))

-- what passes the test stands in front
filter_taken : {A : Type 0} (p : A → Bool) (xs : List A) (i : ℕ) → AllWithin (λ (y : A). p y ≡ true) xs 0 i → AllWithin (λ (y : A). p y ≡ false) xs i (length xs) → i ≤ length xs → filter p xs ≡ take i xs
filter_taken p xs zero held out h = none_kept p xs out
filter_taken p [] (suc i) held out h = refl
filter_taken {A = A} p (x ∷ xs) (suc i) held out h =
    ap (λ (b : Bool). cond b (x ∷ filter p xs) (filter p xs)) (held 0 x (omega arith) (omega arith))
    ∙ ap (λ (ys : List A). x ∷ ys) (filter_taken p xs i (λ k d low lt. held (suc k) d (omega arith) (omega (arith, lt))) (λ k d low lt. out (suc k) d (omega (arith, low)) (omega (arith, lt))) (omega (arith, h)))

-- the part that two binary searches cut out is that in the range
pub cut_out : (labels rest : List ℕ) (range : ℕ × ℕ) (first count : ℕ) → Climbing 0 labels → rest ≡ drop first labels → first ≤ length labels → count ≤ length rest
    → IsPartitionPoint (λ (y : ℕ). ltb y range.0 ≡ true) (λ (y : ℕ). ltb y range.0 ≡ false) labels first
    → IsPartitionPoint (λ (y : ℕ). leb y range.1 ≡ true) (λ (y : ℕ). leb y range.1 ≡ false) rest count
    → take count rest ≡ filter (is_within range) labels
cut_out labels rest range first count c is h k low high =
    sym (filter_taken (is_within range) rest count held out k)
    ∙ ap (filter (is_within range)) is
    ∙ sym (filter_dropped (is_within range) labels first under h)
  where
    under : AllWithin (λ (y : ℕ). is_within range y ≡ false) labels 0 first
    under n d zero_le lt = let below : ltb (get_or labels n d) range.0 ≡ true = low.0 n d zero_le lt in grind (arith, nat_tests)

    above : (n d : ℕ) → n < length rest → ltb (get_or rest n d) range.0 ≡ false
    above n d lt =
        ap (λ (y : ℕ). ltb y range.0) (ap (λ (xs : List ℕ). get_or xs n d) is ∙ get_or-drop first labels n d)
        ∙ low.1 (first + n) d (omega arith) (omega (arith, ap (length {A = ℕ}) is, length-drop first labels))

    held : AllWithin (λ (y : ℕ). is_within range y ≡ true) rest 0 count
    held n d zero_le lt =
        let from : ltb (get_or rest n d) range.0 ≡ false = above n d (omega arith) in
        let to : leb (get_or rest n d) range.1 ≡ true = high.0 n d zero_le lt in
        grind (arith, nat_tests)

    out : AllWithin (λ (y : ℕ). is_within range y ≡ false) rest count (length rest)
    out n d le lt =
        let past : leb (get_or rest n d) range.1 ≡ false = high.1 n d le lt in
        grind (arith, nat_tests)

-- what follows a place is all that is cut from there to the end
pub rest_is : (xs : List ℕ) (n : ℕ) → take (length xs - n) (drop n xs) ≡ drop n xs
rest_is xs n = take_all (length xs - n) (drop n xs) (omega (arith, length-drop n xs))

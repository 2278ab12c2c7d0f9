-- Where no key stands twice in a list, none does in a part of it, and a search by the key finds the same item or none.
use Rattle.std.proofs.Common.{◌≡◌, ◌⊎◌, inl, inr, List, [], ◌∷◌, ◌++◌, Bool, true, false, ◌||◌, cond, Option, None, Some, refl, sym, ◌∙◌, ap, subst, map}
use Rattle.std.specs.List.{list_any, find}
use Rattle.std.specs.Str.{bytes_eq}
use Rattle.std.proofs.lemmas.Bool.{or_parts, or_from}
use Rattle.std.proofs.lemmas.Slice.Eq.{bytes_eq-Decides}
use Rattle.circuit_spec.specs.Network.{Name, names}
use Rattle.circuit_spec.specs.Faults.{repeats_after}
use Rattle.circuit_spec.proofs.Lists.{no_option}
use Rattle.circuit_spec.proofs.Sublists.{IsPart}

-- none of the names was seen before or stands before itself
abbrev pub NoRepeats : List Name → List Name → Type 0
NoRepeats seen [] = Unit {0}
NoRepeats seen (x ∷ xs) = (names seen x ≡ false) × NoRepeats (x ∷ seen) xs

-- ---- the repeats of a list

swap : (a b c : Bool) → (a || (b || c)) ≡ (b || (a || c))
swap true true c = refl
swap true false c = refl
swap false true c = refl
swap false false c = refl

any_end : {A : Type 0} (test : A → Bool) (xs : List A) (x : A) → list_any test (xs ++ x ∷ []) ≡ (test x || list_any test xs)
any_end test [] x = refl
any_end test (y ∷ ys) x = ap (λ b. test y || b) (any_end test ys x) ∙ swap (test y) (test x) (list_any test ys)

none_any_by : {A : Type 0} (b : Bool) (y : A) (o : Option A) (rest : Bool) → (o ≡ None → rest ≡ false) → cond b (Some y) o ≡ None → (b || rest) ≡ false
none_any_by true y o rest later e = cc
none_any_by false y o rest later e = later e

none_any : {A : Type 0} (test : A → Bool) (xs : List A) → find test xs ≡ None → list_any test xs ≡ false
none_any test [] e = refl
none_any test (y ∷ ys) e = none_any_by (test y) y (find test ys) (list_any test ys) (none_any test ys) e

any_none_by : {A : Type 0} (b : Bool) (y : A) (o : Option A) (rest : Bool) → (rest ≡ false → o ≡ None) → (b || rest) ≡ false → cond b (Some y) o ≡ None
any_none_by true y o rest later e = cc
any_none_by false y o rest later e = later e

pub any_none : {A : Type 0} (test : A → Bool) (xs : List A) → list_any test xs ≡ false → find test xs ≡ None
any_none test [] e = refl
any_none test (y ∷ ys) e = any_none_by (test y) y (find test ys) (list_any test ys) (any_none test ys) e

-- the keys of the items before are those that were seen
abbrev AreSeen : {A : Type 0} → (A → Name) → List A → List Name → Type 0
AreSeen key before seen = (id : Name) → list_any (λ y. bytes_eq (key y) id) before ≡ names seen id

one_more : {A : Type 0} (key : A → Name) (before : List A) (seen : List Name) (x : A) → AreSeen key before seen → AreSeen key (before ++ x ∷ []) (key x ∷ seen)
one_more key before seen x same id = any_end (λ y. bytes_eq (key y) id) before x ∙ ap (λ b. bytes_eq (key x) id || b) (same id)

none_after : {A : Type 0} (key : A → Name) (before : List A) (seen : List Name) (xs : List A) → AreSeen key before seen → repeats_after key before xs ≡ [] → NoRepeats seen (map key xs)
none_after key before seen [] same e = tt
none_after {A} key before seen (x ∷ xs) same e =
    let parts = no_option (λ (first : A). (first, x)) (find (λ y. bytes_eq (key y) (key x)) before) (repeats_after key (before ++ x ∷ []) xs) e in
    (sym (same (key x)) ∙ none_any (λ y. bytes_eq (key y) (key x)) before parts.0, none_after key (before ++ x ∷ []) (key x ∷ seen) xs (one_more key before seen x same) parts.1)

after_none : {A : Type 0} (key : A → Name) (before : List A) (seen : List Name) (xs : List A) → AreSeen key before seen → NoRepeats seen (map key xs) → repeats_after key before xs ≡ []
after_none key before seen [] same none = refl
after_none key before seen (x ∷ xs) same none =
    rw (any_none (λ y. bytes_eq (key y) (key x)) before (same (key x) ∙ none.0), after_none key (before ++ x ∷ []) (key x ∷ seen) xs (one_more key before seen x same) none.1) refl

pub none_repeated : {A : Type 0} (key : A → Name) (xs : List A) → repeats_after key [] xs ≡ [] → NoRepeats [] (map key xs)
none_repeated key xs e = none_after key [] [] xs (λ id. refl) e

pub repeated_none : {A : Type 0} (key : A → Name) (xs : List A) → NoRepeats [] (map key xs) → repeats_after key [] xs ≡ []
repeated_none key xs none = after_none key [] [] xs (λ id. refl) none

-- ---- a part of a list

abbrev IsSeenToo : List Name → List Name → Type 0
IsSeenToo seen more = (id : Name) → names more id ≡ false → names seen id ≡ false

seen_one : (x y : Name) (seen more : List Name) → x ≡ y → IsSeenToo seen more → IsSeenToo (x ∷ seen) (y ∷ more)
seen_one x y seen more e less id h =
    let parts = or_parts (bytes_eq y id) (names more id) h in
    or_from (bytes_eq x id) (names seen id) (ap (λ (z : Name). bytes_eq z id) e ∙ parts.0) (less id parts.1)

fewer : (seen more xs ys : List Name) → IsSeenToo seen more → IsPart xs ys → NoRepeats more ys → NoRepeats seen xs
fewer seen more [] ys less part none = tt
fewer seen more (x ∷ xs) [] less part none = absurd part
fewer seen more (x ∷ xs) (y ∷ ys) less (inl (e, part)) none =
    (less x (ap (names more) e ∙ none.0), fewer (x ∷ seen) (y ∷ more) xs ys (seen_one x y seen more e less) part none.1)
fewer seen more (x ∷ xs) (y ∷ ys) less (inr part) none =
    fewer seen (y ∷ more) (x ∷ xs) ys (λ id h. less id (or_parts (bytes_eq y id) (names more id) h).1) part none.1

pub part_once : (xs ys : List Name) → IsPart xs ys → NoRepeats [] ys → NoRepeats [] xs
part_once xs ys part none = fewer [] [] xs ys (λ id h. h) part none

-- ---- a search by the key

differs : (seen : List Name) (x id : Name) (b : Bool) → bytes_eq x id ≡ b → names seen x ≡ false → names seen id ≡ true → b ≡ false
differs seen x id true e unseen was =
    let same : x ≡ id = (bytes_eq-Decides x id).0 e in
    let h : true ≡ false = sym was ∙ ap (names seen) (sym same) ∙ unseen in
    cc
differs seen x id false e unseen was = refl

or_true : (a b : Bool) → b ≡ true → (a || b) ≡ true
or_true true b e = refl
or_true false b e = e

-- what was seen before is not found
not_again : {A : Type 0} (key : A → Name) (seen : List Name) (xs ys : List A) (id : Name) → IsPart xs ys → NoRepeats seen (map key ys) → names seen id ≡ true → find (λ x. bytes_eq (key x) id) xs ≡ None
not_again key seen [] ys id part none was = refl
not_again key seen (x ∷ xs) [] id part none was = absurd part
not_again key seen (x ∷ xs) (y ∷ ys) id (inl (e, part)) none was =
    let other : bytes_eq (key x) id ≡ false = differs seen (key x) id (bytes_eq (key x) id) refl (ap (λ z. names seen (key z)) e ∙ none.0) was in
    rw other (not_again key (key y ∷ seen) xs ys id part none.1 (or_true (bytes_eq (key y) id) (names seen id) was))
not_again key seen (x ∷ xs) (y ∷ ys) id (inr part) none was =
    not_again key (key y ∷ seen) (x ∷ xs) ys id part none.1 (or_true (bytes_eq (key y) id) (names seen id) was)

-- what is found in a part is what is found in the whole
abbrev FindsSame : {A : Type 0} → Option A → Option A → Type 0
FindsSame found whole = (found ≡ None) ⊎ (found ≡ whole)

here_or_later : {A : Type 0} (b : Bool) (x y : A) (o q : Option A) → x ≡ y → FindsSame o q → FindsSame (cond b (Some x) o) (cond b (Some y) q)
here_or_later true x y o q e same = inr (ap Some e)
here_or_later false x y o q e same = same

later_or_none : {A : Type 0} (b : Bool) (y : A) (o q : Option A) → (b ≡ true → o ≡ None) → FindsSame o q → FindsSame o (cond b (Some y) q)
later_or_none true y o q none same = inl (none refl)
later_or_none false y o q none same = same

finds_same : {A : Type 0} (key : A → Name) (seen : List Name) (xs ys : List A) (id : Name) → IsPart xs ys → NoRepeats seen (map key ys)
    → FindsSame (find (λ x. bytes_eq (key x) id) xs) (find (λ x. bytes_eq (key x) id) ys)
finds_same key seen [] ys id part none = inl refl
finds_same key seen (x ∷ xs) [] id part none = absurd part
finds_same {A} key seen (x ∷ xs) (y ∷ ys) id (inl (e, part)) none =
    subst (λ b. FindsSame (find (λ z. bytes_eq (key z) id) (x ∷ xs)) (cond b (Some y) (find (λ z. bytes_eq (key z) id) ys))) (ap (λ (z : A). bytes_eq (key z) id) e)
    (here_or_later (bytes_eq (key x) id) x y (find (λ z. bytes_eq (key z) id) xs) (find (λ z. bytes_eq (key z) id) ys) e (finds_same key (key y ∷ seen) xs ys id part none.1))
finds_same key seen (x ∷ xs) (y ∷ ys) id (inr part) none =
    later_or_none (bytes_eq (key y) id) y (find (λ z. bytes_eq (key z) id) (x ∷ xs)) (find (λ z. bytes_eq (key z) id) ys)
    (λ h. not_again key (key y ∷ seen) (x ∷ xs) ys id part none.1 (ap (λ b. b || names seen id) h))
    (finds_same key (key y ∷ seen) (x ∷ xs) ys id part none.1)

pub found_in_part : {A : Type 0} (key : A → Name) (xs ys : List A) (id : Name) → IsPart xs ys → NoRepeats [] (map key ys)
    → (find (λ x. bytes_eq (key x) id) xs ≡ None) ⊎ (find (λ x. bytes_eq (key x) id) xs ≡ find (λ x. bytes_eq (key x) id) ys)
found_in_part key xs ys id part none = finds_same key [] xs ys id part none

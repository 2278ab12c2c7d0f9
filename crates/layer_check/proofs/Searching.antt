-- A search of a list, one item after the other.
use Rattle.std.proofs.Common.{◌≡◌, ℕ, zero, suc, ◌+◌, ◌<◌, List, [], ◌∷◌, ◌++◌, Bool, true, false, cond, Option, None, Some, take, length, get_or, refl, sym, ◌∙◌, ap, arith}
use Rattle.std.specs.List.{find}
use Rattle.std.proofs.lemmas.List.{take_more}

none_parts : {A : Type 0} (b : Bool) (x : A) (f : Option A) → cond b (Some x) f ≡ None → (b ≡ false) × (f ≡ None)
none_parts true x f e = cc
none_parts false x f e = (refl, e)

-- the item that passes, where none before it does
pub find_there : {A : Type 0} (test : A → Bool) (xs : List A) (k : ℕ) (d : A) → k < length xs → find test (take k xs) ≡ None → test (get_or xs k d) ≡ true → Some (get_or xs k d) ≡ find test xs
find_there test [] k d h none e = absurd (omega arith)
find_there test (x ∷ xs) zero d h none e = sym (ap (λ b. cond b (Some x) (find test xs)) e)
find_there test (x ∷ xs) (suc k) d h none e =
    let parts = none_parts (test x) x (find test (take k xs)) none in
    find_there test xs k d (omega arith) parts.1 e ∙ sym (ap (λ b. cond b (Some x) (find test xs)) parts.0)

none_behind : {A : Type 0} (test : A → Bool) (xs : List A) (x : A) → find test xs ≡ None → test x ≡ false → find test (xs ++ x ∷ []) ≡ None
none_behind test [] x none e = ap (λ b. cond b (Some x) None) e
none_behind test (y ∷ ys) x none e =
    let parts = none_parts (test y) y (find test ys) none in
    ap (λ b. cond b (Some y) (find test (ys ++ x ∷ []))) parts.0 ∙ none_behind test ys x parts.1 e

-- one more item that does not pass
pub find_more : {A : Type 0} (test : A → Bool) (xs : List A) (k : ℕ) (d : A) → k < length xs → find test (take k xs) ≡ None → test (get_or xs k d) ≡ false → find test (take (k + 1) xs) ≡ None
find_more test xs k d h none e = ap (find test) (take_more xs k d h) ∙ none_behind test (take k xs) (get_or xs k d) none e

-- A list that has grown by one more value of a function.
use Rattle.std.proofs.Common.{◌≡◌, ℕ, ◌+◌, List, [], ◌∷◌, ◌++◌, map, append_assoc, arith}
use Rattle.std.specs.List.{range_with_len}
use Rattle.std.proofs.lemmas.List.FromFn.{map-range_with_len_more}

pub one_more : {A : Type 0} (f : ℕ → A) (front : List A) (k : ℕ) (before after : List A) (x : A)
    → before ≡ front ++ map f (range_with_len 1 k) → after ≡ before ++ x ∷ [] → x ≡ f (k + 1) → after ≡ front ++ map f (range_with_len 1 (k + 1))
one_more f front k before after x is pushed next =
    let more = map-range_with_len_more f 1 k (k + 1) (omega arith) in
    cc (more, append_assoc front (map f (range_with_len 1 k)) (f (k + 1) ∷ []))

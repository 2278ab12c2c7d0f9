-- The first places of lists at which tests pass.
use Rattle.std.specs.Prelude.{ℕ, ◌+◌, List, [], ◌∷◌, Bool, cond, Option, None, Some, option_map, min}
use Rattle.ml_base.specs.declared.numbers.PortNo.{PortNo}

-- the number of a port, if there is one
abbrev pub number_of : Option PortNo → Option ℕ
number_of port = option_map (λ (p : PortNo). p.0) port

-- the lesser of two numbers, of those that are there
abbrev pub lesser_of : Option ℕ → Option ℕ → Option ℕ
lesser_of None other = other
lesser_of (Some n) None = Some n
lesser_of (Some n) (Some m) = Some (min n m)

-- the place of the first item that passes the test
abbrev pub first_place : {A : Type 0} → (A → Bool) → List A → Option ℕ
first_place test [] = None
first_place test (x ∷ xs) = cond (test x) (Some 0) (option_map (λ k. k + 1) (first_place test xs))

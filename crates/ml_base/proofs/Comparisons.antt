-- Laws of tests, of what is the same and of what is less, that the kit lacks.
use Rattle.std.proofs.Common.{◌≡◌, ◌⊎◌, ℕ, ◌+◌, ◌<◌, ◌≤◌, inl, inr, List, Bool, true, false, Ordering, Less, Equal, Greater, IsTrue, refl, ap, arith}
use Rattle.std.specs.Ordering.{is_lt, nat_cmp}
use Rattle.std.specs.Str.{bytes_eq}
use Rattle.std.proofs.lemmas.Bool.{cases_lt}
use Rattle.std.proofs.lemmas.Bool.Decides.{nat_tests}
use Rattle.std.proofs.lemmas.Grind.{common_steps}
use Rattle.std.proofs.lemmas.Slice.Eq.{bytes_eq-Decides}
use Rattle.ml_base.specs.declared.numbers.StateNo.{StateNo}

-- a test that fails does not hold
pub untrue : (b : Bool) → b ≡ false → IsTrue b → ⊥
untrue true e t = cc
untrue false e t = cc

-- bytes are their own bytes, and what has the same bytes is the same
pub bytes_itself : (x : List ℕ) → bytes_eq x x ≡ true
bytes_itself x = (bytes_eq-Decides x x).1 refl

pub same_bytes : (x y : List ℕ) → bytes_eq x y ≡ true → x ≡ y
same_bytes x y e = (bytes_eq-Decides x y).0 e

-- below a number and one more: below it, or at it
pub below_cases : (i n : ℕ) → i < n + 1 → (i < n) ⊎ (i ≡ n)
below_cases i n l = elim (cases_lt i n) as (λ v. (i < n) ⊎ (i ≡ n)) [ inl a ↦ inl a | inr b ↦ inr (omega arith) ]

-- what is less, and not the same
pub is_less : (o : Ordering) → is_lt o ≡ true → o ≡ Less
is_less Less e = refl
is_less Equal e = cc
is_less Greater e = cc

pub not_less : (o : Ordering) → o ≡ Equal → is_lt o ≡ true → ⊥
not_less o e f = absurd cc

-- two numbers by their order
pub less_at_most : (m n : ℕ) → nat_cmp m n ≡ Less → m ≤ n
less_at_most m n e = grind (arith, common_steps)

pub at_least : (m n : ℕ) → is_lt (nat_cmp n m) ≡ false → m ≤ n
at_least m n e = grind (arith, nat_tests)

-- states of one number are one
pub same_state : (a b : StateNo) → a.0 ≡ b.0 → a ≡ b
same_state a b e = let make : ℕ → StateNo = λ n. record { 0 = n } in ap make e

-- The order of weights as maps keep it.
use Rattle.std.proofs.Common.{◌≡◌, ◌⊎◌, ℕ, ◌<◌, ◌≤◌, refl, inl, inr, arith}
use Rattle.std.proofs.lemmas.Grind.{common_steps}
use Rattle.std.specs.Ordering.{nat_cmp, ordering_then}
use Rattle.std.specs.declared.cmp.Ordering.{Ordering}
use Rattle.std.specs.declared.cmp.Ordering.TheVariants.{Less, Equal}
use Rattle.ml_base.specs.contracts.weight.WeightOrd.TheImpl.{ghosts}
use Rattle.ml_base.specs.declared.weight.Weight.{Weight}
use Rattle.ml_base.specs.declared.weight.Weight.TheVariants.{Known, Past}
use Rattle.ml_base.specs.Weight.{IsCappedAtMost}

less_cases : (a b : ℕ) (o : Ordering) → ordering_then (nat_cmp a b) o ≡ Less → (a < b) ⊎ ((a ≡ b) × (o ≡ Less))
less_cases a b o e = grind (arith, common_steps)

less_number : (a b : ℕ) → nat_cmp a b ≡ Less → a ≤ b
less_number a b e = grind (arith, common_steps)

equal_first : (a b : ℕ) (o : Ordering) → ordering_then (nat_cmp a b) o ≡ Equal → a ≡ b
equal_first a b o e = grind (arith, common_steps)

equal_second : (a b : ℕ) (o : Ordering) → ordering_then (nat_cmp a b) o ≡ Equal → o ≡ Equal
equal_second a b o e = grind (arith, common_steps)

equal_number : (a b : ℕ) → nat_cmp a b ≡ Equal → a ≡ b
equal_number a b e = grind (arith, common_steps)

-- what comes before another is at most it
pub before_at_most : (u v : Weight) → ghosts.cmp u v ≡ Less → IsCappedAtMost u v
before_at_most (Known a h) (Known b k) e = elim (less_cases a b (nat_cmp h k) e) as (λ v. IsCappedAtMost (Known a h) (Known b k)) [ inl l ↦ inl l | inr s ↦ inr (s.0, less_number h k s.1) ]
before_at_most (Known a h) Past e = tt
before_at_most Past (Known b k) e = absurd (cc)
before_at_most Past Past e = tt

-- what has the same place is the same
pub same_place : (u v : Weight) → ghosts.cmp u v ≡ Equal → u ≡ v
same_place (Known a h) (Known b k) e =
    let cost : a ≡ b = equal_first a b (nat_cmp h k) e in
    let hops : h ≡ k = equal_number h k (equal_second a b (nat_cmp h k) e) in
    cc
same_place (Known a h) Past e = absurd (cc)
same_place Past (Known b k) e = absurd (cc)
same_place Past Past e = refl

-- Laws of the cap: sums and the order.
use Rattle.std.proofs.Common.{◌≡◌, ℕ, ◌+◌, ◌<◌, ◌≤◌, ◌^◌, ◌⊎◌, min, refl, inl, inr, arith}
use Rattle.std.proofs.lemmas.Grind.{common_steps}
use Rattle.std.proofs.lemmas.Bool.{cases_lt}
use Rattle.ml_base.specs.Weight.{FullWeight, cap, capped_total, IsCappedAtMost}
use Rattle.ml_base.specs.declared.weight.Weight.{Weight}
use Rattle.ml_base.specs.declared.weight.Weight.TheVariants.{Known, Past}

-- a weight by its parts
abbrev pub full : ℕ → ℕ → FullWeight
full c h = record { cost = c; hops = h }

-- below the limit, and from it on
pub cap-known : (c h : ℕ) → c < 2 ^ 64 → cap (full c h) ≡ Known c (min h (2 ^ 40))
cap-known c h l = grind (arith, common_steps)

pub cap-past : (c h : ℕ) → 2 ^ 64 ≤ c → cap (full c h) ≡ Past
cap-past c h l = grind (arith, common_steps)

pub at_most-same : (w : Weight) → IsCappedAtMost w w
at_most-same (Known a h) = inr (refl, omega arith)
at_most-same Past = tt

pub at_most-past : (w : Weight) → IsCappedAtMost w Past
at_most-past (Known a h) = tt
at_most-past Past = tt

pub at_most-trans : (u v w : Weight) → IsCappedAtMost u v → IsCappedAtMost v w → IsCappedAtMost u w
at_most-trans u v Past p q = at_most-past u
at_most-trans u Past (Known c l) p q = absurd q
at_most-trans Past (Known b k) (Known c l) p q = absurd p
at_most-trans (Known a h) (Known b k) (Known c l) (inl p) (inl q) = inl (omega arith)
at_most-trans (Known a h) (Known b k) (Known c l) (inl p) (inr q) = inl (omega arith)
at_most-trans (Known a h) (Known b k) (Known c l) (inr p) (inl q) = inl (omega arith)
at_most-trans (Known a h) (Known b k) (Known c l) (inr p) (inr q) = inr (omega arith, omega arith)

pub at_most-antisym : (u v : Weight) → IsCappedAtMost u v → IsCappedAtMost v u → u ≡ v
at_most-antisym Past Past p q = refl
at_most-antisym (Known a h) Past p q = absurd q
at_most-antisym Past (Known b k) p q = absurd p
at_most-antisym (Known a h) (Known b k) (inl p) (inl q) = absurd (omega arith)
at_most-antisym (Known a h) (Known b k) (inl p) (inr q) = absurd (omega arith)
at_most-antisym (Known a h) (Known b k) (inr p) (inl q) = absurd (omega arith)
at_most-antisym (Known a h) (Known b k) (inr p) (inr q) =
    let e : a ≡ b = p.0 in
    let f : h ≡ k = omega arith in cc

-- the cap of a sum is the capped sum of the caps
pub cap-total : (a h b k : ℕ) → cap (full (a + b) (h + k)) ≡ capped_total (cap (full a h)) (cap (full b k))
cap-total a h b k = by_cases (cases_lt a (2 ^ 64)) (cases_lt b (2 ^ 64))
  where
    by_cases : (a < 2 ^ 64) ⊎ (2 ^ 64 ≤ a) → (b < 2 ^ 64) ⊎ (2 ^ 64 ≤ b) → cap (full (a + b) (h + k)) ≡ capped_total (cap (full a h)) (cap (full b k))
    by_cases (inl p) (inl q) = grind (arith, common_steps)
    by_cases (inl p) (inr q) = grind (arith, common_steps)
    by_cases (inr p) q = grind (arith, common_steps)

-- the cap keeps the order
pub cap-at_most : (a h b k : ℕ) → (a < b) ⊎ (a ≡ b) × (h ≤ k) → IsCappedAtMost (cap (full a h)) (cap (full b k))
cap-at_most a h b k p = by_cases (cases_lt a (2 ^ 64)) (cases_lt b (2 ^ 64)) p
  where
    by_cases : (a < 2 ^ 64) ⊎ (2 ^ 64 ≤ a) → (b < 2 ^ 64) ⊎ (2 ^ 64 ≤ b) → (a < b) ⊎ (a ≡ b) × (h ≤ k) → IsCappedAtMost (cap (full a h)) (cap (full b k))
    by_cases x (inr q) p = rw (cap-past b k q) (at_most-past (cap (full a h)))
    by_cases (inr p) (inl q) (inl r) = absurd (omega arith)
    by_cases (inr p) (inl q) (inr r) = absurd (omega arith)
    by_cases (inl p) (inl q) (inl r) = rw (cap-known a h p, cap-known b k q) (inl r)
    by_cases (inl p) (inl q) (inr r) = rw (cap-known a h p, cap-known b k q) (inr (r.0, omega arith))

past-total : (v : Weight) → capped_total Past v ≡ Past
past-total (Known a h) = refl
past-total Past = refl

-- the capped sum keeps the order
pub capped_total-at_most : (u u' v v' : Weight) → IsCappedAtMost u u' → IsCappedAtMost v v' → IsCappedAtMost (capped_total u v) (capped_total u' v')
capped_total-at_most u Past v v' p q = rw (past-total v') (at_most-past (capped_total u v))
capped_total-at_most Past (Known b k) v v' p q = absurd p
capped_total-at_most (Known a h) (Known b k) v Past p q = at_most-past (capped_total (Known a h) v)
capped_total-at_most (Known a h) (Known b k) Past (Known d l) p q = absurd q
capped_total-at_most (Known a h) (Known b k) (Known c m) (Known d l) (inl p) (inl q) = cap-at_most (a + c) (h + m) (b + d) (k + l) (inl (omega arith))
capped_total-at_most (Known a h) (Known b k) (Known c m) (Known d l) (inl p) (inr q) = cap-at_most (a + c) (h + m) (b + d) (k + l) (inl (omega arith))
capped_total-at_most (Known a h) (Known b k) (Known c m) (Known d l) (inr p) (inl q) = cap-at_most (a + c) (h + m) (b + d) (k + l) (inl (omega arith))
capped_total-at_most (Known a h) (Known b k) (Known c m) (Known d l) (inr p) (inr q) = cap-at_most (a + c) (h + m) (b + d) (k + l) (inr (omega arith, omega arith))

-- one of two weights is the lesser
pub at_most-either : (u v : Weight) → IsCappedAtMost u v ⊎ IsCappedAtMost v u
at_most-either u Past = inl (at_most-past u)
at_most-either Past (Known b k) = inr tt
at_most-either (Known a h) (Known b k) = by_cases (cases_lt a b) (cases_lt b a) (cases_lt h k)
  where
    by_cases : (a < b) ⊎ (b ≤ a) → (b < a) ⊎ (a ≤ b) → (h < k) ⊎ (k ≤ h) → IsCappedAtMost (Known a h) (Known b k) ⊎ IsCappedAtMost (Known b k) (Known a h)
    by_cases (inl p) q r = inl (inl p)
    by_cases (inr p) (inl q) r = inr (inl q)
    by_cases (inr p) (inr q) (inl r) = inl (inr (omega arith, omega arith))
    by_cases (inr p) (inr q) (inr r) = inr (inr (omega arith, omega arith))

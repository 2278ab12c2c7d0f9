-- When a derivation is too long to be unfolded.
use Rattle.std.specs.Prelude.{◌≡◌, ℕ, ◌<◌}
use Rattle.ml_base.specs.declared.weight.Weight.{Weight}
use Rattle.ml_base.specs.declared.weight.Weight.TheVariants.{Known, Past}

-- the weight is known, with these hops, which are more than the limit
abbrev pub IsLong : Weight → ℕ → ℕ → Type 0
IsLong (Known cost h) limit hops = (h ≡ hops) × (limit < hops)
IsLong Past limit hops = ⊥

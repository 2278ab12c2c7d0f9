-- What capped weights of lists of steps say of their costs and their numbers of steps.
use Rattle.std.proofs.Common.{◌≡◌, ℕ, ◌<◌, ◌≤◌, ◌^◌, List, length, min, sym, ◌∙◌, subst, inl, inr, arith}
use Rattle.std.proofs.lemmas.Bool.{cases_lt}
use Rattle.ml_base.specs.declared.weight.Weight.{Weight}
use Rattle.ml_base.specs.declared.weight.Weight.TheVariants.{Known, Past}
use Rattle.ml_base.specs.Weight.{IsCappedAtMost}
use Rattle.ml_base.proofs.Laws.{cap-known, cap-past}
use Rattle.walk_grammar.specs.System.{cost_of}
use Rattle.adapt_machine.specs.declared.MachineStep.{MachineStep}
use Rattle.adapt_machine.specs.Walks.{system_of, weight_of}

module _ (steps : List MachineStep) (ks : List ℕ) where
  abbrev cost : ℕ
  cost = cost_of (system_of steps) ks

  pub costs_less : cost < 2 ^ 64 → weight_of steps ks ≡ Known cost (min (length ks) (2 ^ 40))
  costs_less less = cap-known cost (length ks) less

  pub costs_more : 2 ^ 64 ≤ cost → weight_of steps ks ≡ Past
  costs_more more = cap-past cost (length ks) more

  not_past : (w : Weight) (c h : ℕ) → w ≡ Known c h → IsCappedAtMost Past w → ⊥
  not_past w c h e past = subst (λ v. IsCappedAtMost Past v) e past

  -- what is at least Past costs 2 ^ 64 or more
  pub past_costs : IsCappedAtMost Past (weight_of steps ks) → 2 ^ 64 ≤ cost
  past_costs past = elim (cases_lt cost (2 ^ 64)) [
    | inl less ↦ absurd (not_past (weight_of steps ks) cost (min (length ks) (2 ^ 40)) (costs_less less) past)
    | inr more ↦ more
  ]

  -- what is known costs less, and has as many steps as its weight says, below the cap
  pub known_costs : (c h : ℕ) → weight_of steps ks ≡ Known c h → cost < 2 ^ 64
  known_costs c h known = elim (cases_lt cost (2 ^ 64)) [
    | inl less ↦ less
    | inr more ↦ (let past : weight_of steps ks ≡ Past = costs_more more in absurd (cc))
  ]

  known_hops : (c h : ℕ) → weight_of steps ks ≡ Known c h → min (length ks) (2 ^ 40) ≡ h
  known_hops c h known =
      let is : weight_of steps ks ≡ Known cost (min (length ks) (2 ^ 40)) = costs_less (known_costs c h known) in
      let same : Known cost (min (length ks) (2 ^ 40)) ≡ Known c h = sym is ∙ known in
      cc

  pub light_steps : (c h limit : ℕ) → weight_of steps ks ≡ Known c h → h ≤ limit → limit < 2 ^ 40 → length ks ≤ limit
  light_steps c h limit known within small = let e : min (length ks) (2 ^ 40) ≡ h = known_hops c h known in omega arith

  pub steps_light : (c h limit : ℕ) → weight_of steps ks ≡ Known c h → length ks ≤ limit → h ≤ limit
  steps_light c h limit known within = let e : min (length ks) (2 ^ 40) ≡ h = known_hops c h known in omega arith

use Rattle.std.proofs.Common.{◌≡◌, inl, inr, [], ◌∷◌, None, Some, codes, refl}
use Rattle.nml_elements.specs.declared.elements.Labels.TheVariants.{Unlabelled}
use Rattle.circuit_spec.specs.Network.{Name, Port}
use Rattle.circuit_spec.proofs.rows.mislabelled_aliases.Goals as goal

abbrev b : Port
b = record { id = codes "b"; encoding = codes "none"; labels = Unlabelled; sources = []; sinks = []; services = []; aliases = [] }

nothing_is_some : (name : Name) → None ≡ Some name → ⊥
nothing_is_some name e = cc

pub returns : goal.returns
returns c = inl (inl (
  inl (([], refl), refl),
  refl,
  (λ _. refl, (λ _. refl, tt)),
  (
    b,
    inr ((λ h. h.1 refl), inl (((codes "b" ∷ [], (refl, refl)), nothing_is_some (codes "vlan")), refl)),
    refl,
  ),
))

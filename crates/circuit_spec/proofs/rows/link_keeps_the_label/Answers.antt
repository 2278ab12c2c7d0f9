use Rattle.std.proofs.Common.{inl, inr, List, [], ◌∷◌, codes, refl, subst, arith}
use Rattle.ml_base.specs.declared.numbers.Wish.TheVariants.{Value}
use Rattle.nml_elements.specs.declared.elements.Labels.TheVariants.{Of}
use Rattle.circuit_spec.specs.declared.hops.HopKind.TheVariants as kind
use Rattle.circuit_spec.specs.Network.{Name, Placed, Port, ports}
use Rattle.circuit_spec.specs.Steps.{Rule}
use Rattle.circuit_spec.specs.Rows.{request_with}
use Rattle.circuit_spec.specs.ServiceRows.{linked_groups, p_to_q}
use Rattle.circuit_spec.proofs.Alone.{NoAliases}
use Rattle.circuit_spec.proofs.OneHop.{one_hop}
use Rattle.circuit_spec.proofs.Stuck.{KeepsLabels, labels_kept}
use Rattle.circuit_spec.proofs.rows.link_keeps_the_label.Goals as goal

abbrev group : Name → List Name → List Name → Port
group id sources sinks = record {
  id = id;
  encoding = codes "none";
  labels = Of (codes "vlan") ((100, 200) ∷ []);
  sources = sources;
  sinks = sinks;
  services = [];
  aliases = [];
}

none : NoAliases (ports linked_groups)
none = (refl, (refl, tt))

keeps : KeepsLabels linked_groups
keeps p (inl e) = λ h from to old new rule. absurd (subst (λ (x : Placed). Rule linked_groups h from to x.element old new) e rule)
keeps p (inr (inl e)) = λ h from to old new rule. absurd (subst (λ (x : Placed). Rule linked_groups h from to x.element old new) e rule)
keeps p (inr (inr (inl e))) = λ h from to old new rule. (subst (λ (x : Placed). Rule linked_groups h from to x.element old new) e rule).3
keeps p (inr (inr (inr never))) = absurd never

pub returns-clause-circuit : goal.returns-clause-circuit
returns-clause-circuit c =
    one_hop linked_groups (request_with (Value 150) (Value 150)) (p_to_q kind.Link (codes "l") 150 150)
    (group (codes "p") (codes "l" ∷ []) []) (group (codes "q") [] (codes "l" ∷ [])) _ none refl refl refl refl refl refl
    (λ _. refl, (λ _. refl, tt)) refl (λ _. refl, (λ _. refl, tt)) refl (λ stack. (refl, refl, refl, refl, tt, refl))

pub returns-clause-other : goal.returns-clause-other
returns-clause-other c = labels_kept linked_groups (codes "p") (codes "q") 100 200 keeps (λ e. omega (arith, e))

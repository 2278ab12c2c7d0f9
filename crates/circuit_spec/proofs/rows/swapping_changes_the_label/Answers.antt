use Rattle.std.proofs.Common.{◌≡◌, ◌⊎◌, inl, inr, [], ◌∷◌, Bool, true, false, IsTrue, codes, refl, subst, arith}
use Rattle.std.proofs.lemmas.Bool.{false≢true}
use Rattle.ml_base.specs.declared.numbers.Wish.TheVariants.{Value}
use Rattle.nml_elements.specs.declared.elements.Labels.TheVariants.{Of}
use Rattle.circuit_spec.specs.declared.hops.Hop.{Hop}
use Rattle.circuit_spec.specs.declared.hops.HopKind.TheVariants as kind
use Rattle.circuit_spec.specs.Network.{Name, Placed, Port, ports}
use Rattle.circuit_spec.specs.Steps.{Rule}
use Rattle.circuit_spec.specs.Rows.{request_with}
use Rattle.circuit_spec.specs.ServiceRows.{p_to_q, switched_groups}
use Rattle.circuit_spec.proofs.Alone.{NoAliases}
use Rattle.circuit_spec.proofs.OneHop.{one_hop}
use Rattle.circuit_spec.proofs.Stuck.{KeepsLabels, labels_kept}
use Rattle.circuit_spec.proofs.rows.swapping_changes_the_label.Goals as goal

abbrev group : Name → Port
group id = record {
  id = id;
  encoding = codes "eth";
  labels = Of (codes "vlan") ((100, 200) ∷ []);
  sources = [];
  sinks = [];
  services = [];
  aliases = [];
}

none : (swapping : Bool) → NoAliases (ports (switched_groups swapping))
none swapping = (refl, (refl, tt))

unswapped : (h : Hop) → IsTrue false ⊎ (h.to_label ≡ h.from_label) → h.to_label ≡ h.from_label
unswapped h (inl swaps) = absurd (false≢true swaps)
unswapped h (inr same) = same

keeps : KeepsLabels (switched_groups false)
keeps p (inl e) = λ h from to old new rule.
    absurd (subst (λ (x : Placed). Rule (switched_groups false) h from to x.element old new) e rule)
keeps p (inr (inl e)) = λ h from to old new rule.
    absurd (subst (λ (x : Placed). Rule (switched_groups false) h from to x.element old new) e rule)
keeps p (inr (inr (inl e))) = λ h from to old new rule.
    unswapped h (subst (λ (x : Placed). Rule (switched_groups false) h from to x.element old new) e rule).3
keeps p (inr (inr (inr never))) = absurd never

pub returns-clause-keeps : goal.returns-clause-keeps
returns-clause-keeps c =
    one_hop (switched_groups false) (request_with (Value 150) (Value 150)) (p_to_q kind.Cross (codes "s") 150 150)
    (group (codes "p")) (group (codes "q")) _ (none false) refl refl refl refl refl refl
    (λ _. refl, (λ _. refl, tt)) refl (λ _. refl, (λ _. refl, tt)) refl (λ stack. (refl, refl, refl, inr refl, refl))

pub returns-clause-keeps_only : goal.returns-clause-keeps_only
returns-clause-keeps_only c = labels_kept (switched_groups false) (codes "p") (codes "q") 100 200 keeps (λ e. omega (arith, e))

pub returns-clause-swaps : goal.returns-clause-swaps
returns-clause-swaps c =
    one_hop (switched_groups true) (request_with (Value 150) (Value 151)) (p_to_q kind.Cross (codes "s") 150 151)
    (group (codes "p")) (group (codes "q")) _ (none true) refl refl refl refl refl refl
    (λ _. refl, (λ _. refl, tt)) refl (λ _. refl, (λ _. refl, tt)) refl (λ stack. (refl, refl, refl, inl refl, refl))

pub returns-clause-may_keep : goal.returns-clause-may_keep
returns-clause-may_keep c =
    one_hop (switched_groups true) (request_with (Value 150) (Value 150)) (p_to_q kind.Cross (codes "s") 150 150)
    (group (codes "p")) (group (codes "q")) _ (none true) refl refl refl refl refl refl
    (λ _. refl, (λ _. refl, tt)) refl (λ _. refl, (λ _. refl, tt)) refl (λ stack. (refl, refl, refl, inl refl, refl))

use Rattle.std.proofs.Common.{[], ◌∷◌, codes, refl}
use Rattle.nml_elements.specs.declared.elements.Labels.TheVariants.{Of}
use Rattle.circuit_spec.specs.Network.{Port, ports}
use Rattle.circuit_spec.specs.ServiceRows.{at_label, relabelled, relabelling, within_group}
use Rattle.circuit_spec.proofs.Alone.{NoAliases, alone_class}
use Rattle.circuit_spec.proofs.OneHop.{one_hop}
use Rattle.circuit_spec.proofs.rows.place_has_its_label.Goals as goal

abbrev p : Port
p = record {
  id = codes "p";
  encoding = codes "eth";
  labels = Of (codes "vlan") ((100, 200) ∷ []);
  sources = [];
  sinks = [];
  services = [];
  aliases = [];
}

none : NoAliases (ports relabelled)
none = (refl, tt)

pub returns-clause-circuit : goal.returns-clause-circuit
returns-clause-circuit c =
    one_hop relabelled (within_group 100 200) (relabelling 100 200) p p _ none
    refl refl refl refl refl refl (λ _. refl, tt) refl (λ _. refl, tt) refl (λ stack. (refl, refl, refl, refl))

pub returns-clause-flags : goal.returns-clause-flags
returns-clause-flags c = (
  at_label 200 ∷ at_label 100 ∷ [],
  ((p, alone_class relabelled p.id p none refl, refl), ((p, alone_class relabelled p.id p none refl, refl), refl)),
  refl,
)

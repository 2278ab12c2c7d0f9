use Rattle.std.proofs.Common.{inl, inr, [], ◌∷◌, codes, refl}
use Rattle.std.proofs.lemmas.Bool.{false≢true}
use Rattle.nml_elements.specs.declared.elements.Labels.TheVariants.{Of}
use Rattle.circuit_spec.specs.Network.{Name, Port, ports}
use Rattle.circuit_spec.specs.Rows.{vlan}
use Rattle.circuit_spec.proofs.Alone.{NoAliases, alone_class}
use Rattle.circuit_spec.proofs.rows.first_request_faults.Goals as goal

abbrev group : Name → Port
group id = record { id = id; encoding = codes "eth"; labels = Of (codes "vlan") ((100, 200) ∷ []); sources = []; sinks = []; services = []; aliases = [] }

none : NoAliases (ports vlan)
none = (refl, (refl, tt))

pub returns-clause-from : goal.returns-clause-from
returns-clause-from c = inl ((λ h. false≢true h), refl)

pub returns-clause-to : goal.returns-clause-to
returns-clause-to c = inr (refl, (λ h. false≢true h), refl)

pub returns-clause-from_label : goal.returns-clause-from_label
returns-clause-from_label c = (
  refl,
  refl,
  inl ((refl, (group (codes "p"), alone_class vlan (codes "p") (group (codes "p")) none refl, (λ all. false≢true (all.0 ([], refl))))), refl),
)

pub returns-clause-to_label : goal.returns-clause-to_label
returns-clause-to_label c = (
  refl,
  refl,
  inr (
    (group (codes "p"), alone_class vlan (codes "p") (group (codes "p")) none refl, ((λ _. refl), ((λ _. refl), tt))),
    (refl, (group (codes "q"), alone_class vlan (codes "q") (group (codes "q")) none refl, (λ all. false≢true (all.1.0 ([], refl))))),
    refl,
  ),
)

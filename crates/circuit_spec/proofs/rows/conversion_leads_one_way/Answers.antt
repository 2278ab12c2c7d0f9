use Rattle.std.proofs.Common.{inl, [], ◌∷◌, codes, refl}
use Rattle.nml_elements.specs.declared.elements.Labels.TheVariants.{Of}
use Rattle.circuit_spec.specs.Network.{Port, IsInClassSet, ports}
use Rattle.circuit_spec.specs.Rows.{request_any}
use Rattle.circuit_spec.specs.ServiceRows.{converted, converting}
use Rattle.circuit_spec.proofs.Alone.{NoAliases, linked_alone}
use Rattle.circuit_spec.proofs.OneHop.{one_hop}
use Rattle.circuit_spec.proofs.Stuck.{cut_off}
use Rattle.circuit_spec.proofs.Tunnel.{apart}
use Rattle.circuit_spec.proofs.rows.conversion_leads_one_way.Goals as goal

abbrev p : Port
p = record {
  id = codes "p";
  encoding = codes "eth";
  labels = Of (codes "vlan") ((100, 100) ∷ []);
  sources = [];
  sinks = [];
  services = [];
  aliases = [];
}

abbrev q : Port
q = record {
  id = codes "q";
  encoding = codes "wdm";
  labels = Of (codes "lambda") ((7, 7) ∷ []);
  sources = [];
  sinks = [];
  services = [];
  aliases = [];
}

none : NoAliases (ports converted)
none = (refl, (refl, tt))

in_p : IsInClassSet converted p 100
in_p = (λ _. refl, (λ l. absurd (apart (codes "p") (codes "q") refl (linked_alone converted (codes "p") (codes "q") none l)), tt))

in_q : IsInClassSet converted q 7
in_q = (λ l. absurd (apart (codes "q") (codes "p") refl (linked_alone converted (codes "q") (codes "p") none l)), (λ _. refl, tt))

pub returns-clause-circuit : goal.returns-clause-circuit
returns-clause-circuit c =
    one_hop converted (request_any (codes "p") (codes "q")) converting p q _ none
    refl refl refl refl refl refl in_p tt in_q tt (λ stack. (refl, refl, refl, refl))

pub returns-clause-back : goal.returns-clause-back
returns-clause-back c = cut_off converted (request_any (codes "q") (codes "p")) none (inl refl) refl

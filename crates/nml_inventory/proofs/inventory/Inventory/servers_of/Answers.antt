use Rattle.std.proofs.Common.{◌∙◌, [], refl, sym, ap, subst, map}
use Rattle.nml_elements.specs.declared.elements.Element.{Element}
use Rattle.circuit_spec.specs.Network.{Topology, Placed, Port, id_of, names}
use Rattle.nml_inventory.specs.declared.arcs.PortMember.TheVariants.{Services}
use Rattle.nml_inventory.specs.Relations.{AreNumbersOf, is_server}
use Rattle.nml_inventory.specs.Tables.{in_port}
use Rattle.nml_inventory.proofs.Lending.{related, unrelated}
use Rattle.nml_inventory.proofs.Spans.{number_of}
use Rattle.nml_inventory.proofs.Answering.{server_by, no_server}
use Rattle.nml_inventory.proofs.inventory.Inventory.servers_of.Goals as goal

pub returns-then-may_name : goal.returns-then-may_name
returns-then-may_name c =
    subst (λ (U : Topology). AreNumbersOf U is_server c.args.number (map number_of c.of.result.now)) c.self.view_is
    (related c.self.inside.numbered is_server (λ (e : Placed) (q : Port). names (in_port Services q) (id_of e.element)) c.args.number c.at.result.now c.at.result.now (map number_of c.of.result.now) c.self.inside.relations.servers c.at.ensures refl
    (λ x is j q q_at. ap (λ (e : Element). names (in_port Services q) (id_of e)) is ∙ server_by c.at.result.now q (sym c.may_name.ensures ∙ c.if-may_name.true)) c.self.invariant.relations_are.servers_are c.of.ensures)

pub returns-else-may_name : goal.returns-else-may_name
returns-else-may_name c =
    subst (λ (U : Topology). AreNumbersOf U is_server c.args.number []) c.self.view_is
    (unrelated c.self.inside.numbered is_server c.args.number c.at.result.now c.at.result.now [] c.at.ensures refl (λ q. no_server c.at.result.now q (sym c.may_name.ensures ∙ c.if-may_name.false)) refl)

use Rattle.std.proofs.Common.{◌∙◌, [], refl, sym, ap, subst, map}
use Rattle.nml_elements.specs.declared.elements.Element.{Element}
use Rattle.circuit_spec.specs.Network.{Topology, Placed, Port, names}
use Rattle.nml_inventory.specs.declared.arcs.Listing.TheVariants.{Provided}
use Rattle.nml_inventory.specs.Relations.{AreNumbersOf, is_client}
use Rattle.nml_inventory.specs.Tables.{in_element, provided_in}
use Rattle.nml_inventory.proofs.Lending.{related, unrelated}
use Rattle.nml_inventory.proofs.Spans.{number_of}
use Rattle.nml_inventory.proofs.Answering.{client_by, no_client}
use Rattle.nml_inventory.proofs.inventory.Inventory.clients_of.Goals as goal

pub returns-then-may_name : goal.returns-then-may_name
returns-then-may_name c =
    subst (λ (U : Topology). AreNumbersOf U is_client c.args.number (map number_of c.of.result.now)) c.self.view_is
    (related c.self.inside.numbered is_client (λ (e : Placed) (q : Port). names (in_element Provided e.element) q.id) c.args.number c.at.result.now c.at.result.now (map number_of c.of.result.now) c.self.inside.relations.clients c.at.ensures refl
    (λ x is j q q_at. ap (λ (e : Element). names (provided_in e) q.id) is ∙ client_by c.at.result.now q (sym c.may_name.ensures ∙ c.if-may_name.true)) c.self.invariant.relations_are.clients_are c.of.ensures)

pub returns-else-may_name : goal.returns-else-may_name
returns-else-may_name c =
    subst (λ (U : Topology). AreNumbersOf U is_client c.args.number []) c.self.view_is
    (unrelated c.self.inside.numbered is_client c.args.number c.at.result.now c.at.result.now [] c.at.ensures refl (λ q. no_client c.at.result.now q (sym c.may_name.ensures ∙ c.if-may_name.false)) refl)

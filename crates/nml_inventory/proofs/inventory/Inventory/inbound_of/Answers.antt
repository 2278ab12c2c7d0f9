use Rattle.std.proofs.Common.{◌∙◌, [], refl, sym, ap, subst, map}
use Rattle.nml_elements.specs.declared.elements.Element.{Element}
use Rattle.circuit_spec.specs.Network.{Topology, Placed, Port, names}
use Rattle.nml_inventory.specs.declared.arcs.Listing.TheVariants.{Inbound}
use Rattle.nml_inventory.specs.Relations.{AreNumbersOf, is_inbound}
use Rattle.nml_inventory.specs.Tables.{in_element, inbound_in, lent_to}
use Rattle.nml_inventory.proofs.Lending.{related, unrelated}
use Rattle.nml_inventory.proofs.Spans.{number_of}
use Rattle.nml_inventory.proofs.Answering.{inbound_own, inbound_lent, inbound_neither}
use Rattle.nml_inventory.proofs.inventory.Inventory.inbound_of.Goals as goal

pub returns-in-Own : goal.returns-in-Own
returns-in-Own c =
    let T = c.self.inside.numbered in
    subst (λ (U : Topology). AreNumbersOf U (is_inbound U) c.args.number (map number_of c.of.result.now)) c.self.view_is
    (related T (is_inbound T) (λ (e : Placed) (q : Port). names (in_element Inbound e.element) q.id) c.args.number c.at.result.now c.at.result.now (map number_of c.of.result.now) c.self.inside.relations.inbound c.at.ensures refl
    (λ x is j q q_at. ap (λ (e : Element). names (inbound_in e) q.id) is ∙ inbound_own T c.at.result.now q (sym c.held_by.ensures ∙ c.in-Own.is)) c.self.invariant.relations_are.inbound_are c.of.ensures)

pub returns-in-Lent : goal.returns-in-Lent
returns-in-Lent c =
    let T = c.self.inside.numbered in
    subst (λ (U : Topology). AreNumbersOf U (is_inbound U) c.args.number (map number_of c.of-in-Lent.result.now)) c.self.view_is
    (related T (is_inbound T) (λ (e : Placed) (q : Port). lent_to T Inbound e.element q) c.args.number c.at.result.now c.at.result.now (map number_of c.of-in-Lent.result.now) c.self.inside.relations.lent_inbound c.at.ensures refl
    (λ x is j q q_at. ap (λ (e : Element). lent_to T Inbound e q) is ∙ inbound_lent T c.at.result.now j q c.self.invariant.once (sym c.held_by.ensures ∙ c.in-Lent.is) q_at) c.self.invariant.relations_are.lent_inbound_are c.of-in-Lent.ensures)

pub returns-in-Neither : goal.returns-in-Neither
returns-in-Neither c =
    let T = c.self.inside.numbered in
    subst (λ (U : Topology). AreNumbersOf U (is_inbound U) c.args.number []) c.self.view_is
    (unrelated T (is_inbound T) c.args.number c.at.result.now c.at.result.now [] c.at.ensures refl (λ q. inbound_neither T c.at.result.now q (sym c.held_by.ensures ∙ c.in-Neither.is)) refl)

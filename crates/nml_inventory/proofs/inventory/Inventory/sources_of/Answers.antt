use Rattle.std.proofs.Common.{◌∙◌, [], refl, sym, ap, subst, map}
use Rattle.nml_elements.specs.declared.elements.Element.{Element}
use Rattle.circuit_spec.specs.Network.{Topology, Placed, Port, id_of, names}
use Rattle.nml_inventory.specs.declared.arcs.PortMember.TheVariants.{Sources}
use Rattle.nml_inventory.specs.Relations.{AreNumbersOf, is_source}
use Rattle.nml_inventory.specs.Tables.{in_port}
use Rattle.nml_inventory.proofs.Lending.{related, unrelated}
use Rattle.nml_inventory.proofs.Spans.{number_of}
use Rattle.nml_inventory.proofs.Answering.{source_by, no_source}
use Rattle.nml_inventory.proofs.inventory.Inventory.sources_of.Goals as goal

pub returns-then-may_name : goal.returns-then-may_name
returns-then-may_name c =
    subst (λ (U : Topology). AreNumbersOf U is_source c.args.number (map number_of c.of.result.now)) c.self.view_is
    (related c.self.inside.numbered is_source (λ (e : Placed) (q : Port). names (in_port Sources q) (id_of e.element)) c.args.number c.at.result.now c.at.result.now (map number_of c.of.result.now) c.self.inside.relations.sources c.at.ensures refl
    (λ x is j q q_at. ap (λ (e : Element). names (in_port Sources q) (id_of e)) is ∙ source_by c.at.result.now q (sym c.may_name.ensures ∙ c.if-may_name.true)) c.self.invariant.relations_are.sources_are c.of.ensures)

pub returns-else-may_name : goal.returns-else-may_name
returns-else-may_name c =
    subst (λ (U : Topology). AreNumbersOf U is_source c.args.number []) c.self.view_is
    (unrelated c.self.inside.numbered is_source c.args.number c.at.result.now c.at.result.now [] c.at.ensures refl (λ q. no_source c.at.result.now q (sym c.may_name.ensures ∙ c.if-may_name.false)) refl)

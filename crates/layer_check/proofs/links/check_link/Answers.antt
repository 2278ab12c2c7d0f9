use Rattle.std.proofs.Common.{◌≡◌, List, [], subst}
use Rattle.std.specs.Prelude.{OnOk, IfErr, ◌||◌}
use Rattle.std.specs.Option.{option_copied}
use Rattle.circuit_spec.specs.declared.faults.LayerFault.{LayerFault}
use Rattle.circuit_spec.specs.Network.{Port, names}
use Rattle.layer_check.specs.Found.{IsFaultIn}
use Rattle.layer_check.proofs.OfElements.{link_stated, link_together}
use Rattle.layer_check.proofs.links.check_link.Goals as goal

pub check_related-requires : goal.check_related-requires
check_related-requires c =
    let l = c.args.link.now in
    (_, link_together c.args.inventory.now c.args.number l c.sources_of.result.now c.sinks_of.result.now c.requires c.sources_of.ensures c.sinks_of.ensures)

pub returns-clause-none : goal.returns-clause-none
returns-clause-none c =
    let T = c.args.inventory.now in
    let l = c.args.link.now in
    let both = link_together T c.args.number l c.sources_of.result.now c.sinks_of.result.now c.requires c.sources_of.ensures c.sinks_of.ensures in
    subst (λ (fs : List LayerFault). OnOk c.check_related.result (fs ≡ [])) (link_stated T l (option_copied c.as_ref.result) (option_copied c.type_in.result) c.as_ref.ensures.value c.type_in.ensures)
    (c.check_related.ensures.none (λ (p : Port). names p.sources l.id || names p.sinks l.id) both)

pub returns-clause-fault : goal.returns-clause-fault
returns-clause-fault c =
    let T = c.args.inventory.now in
    let l = c.args.link.now in
    let both = link_together T c.args.number l c.sources_of.result.now c.sinks_of.result.now c.requires c.sources_of.ensures c.sinks_of.ensures in
    subst (λ (fs : List LayerFault). IfErr c.check_related.result (IsFaultIn fs)) (link_stated T l (option_copied c.as_ref.result) (option_copied c.type_in.result) c.as_ref.ensures.value c.type_in.ensures)
    (c.check_related.ensures.fault (λ (p : Port). names p.sources l.id || names p.sinks l.id) both)

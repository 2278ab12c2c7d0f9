use Rattle.std.proofs.Common.{◌≡◌, List, [], subst}
use Rattle.std.specs.Prelude.{OnOk, IfErr, ◌||◌}
use Rattle.std.specs.Option.{option_copied}
use Rattle.circuit_spec.specs.declared.faults.LayerFault.{LayerFault}
use Rattle.circuit_spec.specs.Network.{Port, names}
use Rattle.circuit_spec.specs.Steps.{inbound_of, outbound_of}
use Rattle.layer_check.specs.Found.{IsFaultIn}
use Rattle.layer_check.proofs.OfElements.{service_stated, service_together}
use Rattle.layer_check.proofs.services.check_service.Goals as goal

pub check_related-requires : goal.check_related-requires
check_related-requires c =
    let s = c.args.service.now in
    (_, service_together c.args.inventory.now c.args.number s c.inbound_of.result.now c.outbound_of.result.now c.requires c.inbound_of.ensures c.outbound_of.ensures)

pub returns-clause-none : goal.returns-clause-none
returns-clause-none c =
    let T = c.args.inventory.now in
    let s = c.args.service.now in
    let both = service_together T c.args.number s c.inbound_of.result.now c.outbound_of.result.now c.requires c.inbound_of.ensures c.outbound_of.ensures in
    subst (λ (fs : List LayerFault). OnOk c.check_related.result (fs ≡ [])) (service_stated T s (option_copied c.as_ref.result) c.as_ref.ensures.value)
    (c.check_related.ensures.none (λ (p : Port). names (inbound_of T s) p.id || names (outbound_of T s) p.id) both)

pub returns-clause-fault : goal.returns-clause-fault
returns-clause-fault c =
    let T = c.args.inventory.now in
    let s = c.args.service.now in
    let both = service_together T c.args.number s c.inbound_of.result.now c.outbound_of.result.now c.requires c.inbound_of.ensures c.outbound_of.ensures in
    subst (λ (fs : List LayerFault). IfErr c.check_related.result (IsFaultIn fs)) (service_stated T s (option_copied c.as_ref.result) c.as_ref.ensures.value)
    (c.check_related.ensures.fault (λ (p : Port). names (inbound_of T s) p.id || names (outbound_of T s) p.id) both)

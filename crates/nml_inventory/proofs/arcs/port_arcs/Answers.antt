use Rattle.std.proofs.Common.{◌∙◌, List, map}
use Rattle.std.specs.Rc.{rc_str_bytes}
use Rattle.circuit_spec.specs.Network.{Name, Placed, elements_of, id_of, port_of, ports}
use Rattle.nml_inventory.specs.Tables.{in_port}
use Rattle.nml_inventory.proofs.Answering.{entry_names}
use Rattle.nml_inventory.proofs.Tabling.{named_more}
use Rattle.nml_inventory.proofs.arcs.port_arcs.Goals as goal

pub loop-port-preserved : goal.loop-port-preserved
loop-port-preserved c =
    let T = c.args.numbered.now in
    let ids : List Name = map (λ (e : Placed). id_of e.element) (elements_of T) in
    let d = c.entry.ensures.domain in
    named_more ids (map rc_str_bytes c.element_ids-ids.result.now.keys) (in_port c.args.member) (ports T) c.loop-port.port (port_of d c.entry.result.now) c.loop-port.arcs.items c.add_pairs.new.pairs.items c.named_in-named.result.now
    c.element_ids-ids.ensures.ids c.entry.ensures.port_is (c.named_in-named.ensures ∙ entry_names c.args.member d c.entry.result.now) c.loop-port.invariant c.in_ok-add_pairs.ensures

use Rattle.std.proofs.Common.{◌∙◌, sym, ap, length, arith}
use Rattle.std.specs.Rc.{rc_str_bytes}
use Rattle.std.proofs.lemmas.List.{length-map}
use Rattle.circuit_spec.specs.Network.{ports}
use Rattle.nml_inventory.proofs.ClassNumbers.{port_id}
use Rattle.nml_inventory.proofs.PortNumbers.{few_ports}
use Rattle.nml_inventory.proofs.numbered.Numbered.port_ids.Goals as goal

pub returns-clause-few : goal.returns-clause-few
returns-clause-few c =
    let T = c.self.inside.named in
    omega (arith, c.self.invariant.few, sym (length-map c.self.inside.port_ids.keys rc_str_bytes) ∙ ap length c.self.invariant.ids ∙ length-map (ports T) port_id, few_ports T)

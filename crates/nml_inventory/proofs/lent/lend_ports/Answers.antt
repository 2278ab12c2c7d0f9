use Rattle.std.proofs.Common.{◌<◌, length, arith}
use Rattle.std.proofs.lemmas.List.{get_or-map, length-map}
use Rattle.nml_inventory.proofs.Spans.{number_of}
use Rattle.nml_inventory.proofs.lent.lend_ports.Goals as goal

pub takes-requires : goal.takes-requires
takes-requires c =
    let found = c.args.found.now in
    let i = c.loop-port.port-index in
    let h : i < length found = omega arith in
    omega (arith, get_or-map number_of found i (record { 0 = 0 }) 0 h, c.requires i 0 (omega (arith, length-map found number_of)))

use Rattle.std.proofs.Common.{◌≡◌, map, take}
use Rattle.circuit_spec.specs.Network.{Placed, elements_of, id_of, ports}
use Rattle.nml_inventory.specs.Tables.{in_port, pairs_named}
use Rattle.nml_inventory.proofs.arcs.port_arcs.Given as goal

abbrev pub invariant-loop-port : goal.invariant-loop-port
invariant-loop-port l =
    l.arcs.items ≡ pairs_named (map (λ (e : Placed). id_of e.element) (elements_of l.numbered)) (in_port l.member) (take l.port (ports l.numbered))

use Rattle.std.proofs.Common.{◌≡◌, map, take}
use Rattle.std.specs.Rc.{rc_str_bytes}
use Rattle.circuit_spec.specs.Network.{Placed, elements_of}
use Rattle.nml_inventory.specs.Tables.{in_element, pairs_named}
use Rattle.nml_inventory.proofs.arcs.element_arcs.Given as goal

abbrev pub invariant-loop-number : goal.invariant-loop-number
invariant-loop-number l =
    l.arcs.items ≡ pairs_named (map rc_str_bytes l.ids.keys) (λ (e : Placed). in_element l.listing e.element) (take l.number (elements_of l.numbered))

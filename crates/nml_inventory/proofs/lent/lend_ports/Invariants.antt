use Rattle.std.proofs.Common.{◌≡◌, ◌++◌, map, take}
use Rattle.nml_inventory.specs.Tables.{lent_of}
use Rattle.nml_inventory.proofs.Spans.{number_of}
use Rattle.nml_inventory.proofs.lent.lend_ports.Given as goal

abbrev pub invariant-loop-port : goal.invariant-loop-port
invariant-loop-port l = l.arcs.items ≡ l.initial.arcs.items ++ lent_of l.numbered l.row l.encoding (map number_of (take l.port-index l.found))

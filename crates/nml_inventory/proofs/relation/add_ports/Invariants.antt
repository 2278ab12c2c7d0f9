use Rattle.std.proofs.Common.{◌≡◌, ◌++◌, map, take}
use Rattle.nml_inventory.proofs.Spans.{number_of}
use Rattle.nml_inventory.proofs.relation.add_ports.Given as goal

abbrev pub invariant-loop-port : goal.invariant-loop-port
invariant-loop-port l = map number_of l.ports.items ≡ map number_of l.initial.ports.items ++ take l.port-index l.group

use Rattle.std.proofs.Common.{◌≤◌, take}
use Rattle.circuit_spec.specs.Network.{IsClass, Port, ports}
use Rattle.nml_inventory.specs.Relations.{IsCount}
use Rattle.nml_inventory.proofs.labels.count_classes.Given as goal

abbrev pub invariant-loop-port : goal.invariant-loop-port
invariant-loop-port l = IsCount (λ (p : Port). IsClass l.numbered p.id p) (take l.port (ports l.numbered)) l.count × (l.count ≤ l.port)

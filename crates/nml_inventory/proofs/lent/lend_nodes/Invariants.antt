use Rattle.std.proofs.Common.{◌≡◌, ◌++◌, take}
use Rattle.nml_inventory.specs.Tables.{lent_over}
use Rattle.nml_inventory.proofs.lent.lend_nodes.Given as goal

abbrev pub invariant-loop-node : goal.invariant-loop-node
invariant-loop-node l = l.arcs.items ≡ l.initial.arcs.items ++ lent_over l.numbered l.listed l.row l.encoding (take l.node-index l.nodes)

use Rattle.nml_inventory.proofs.Spans.{AreCopied}
use Rattle.nml_inventory.proofs.relation.copied.Given as goal

abbrev pub invariant-loop-number : goal.invariant-loop-number
invariant-loop-number l = AreCopied l.groups l.number l.begins.items l.ends.items l.ports.items

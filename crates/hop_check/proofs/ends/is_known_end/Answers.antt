use Rattle.std.proofs.Common.{◌↔◌, IsTrue, sym, subst}
use Rattle.circuit_spec.specs.Faults.{IsKnownEnd}
use Rattle.hop_check.proofs.Named.{label_here}
use Rattle.hop_check.proofs.ends.is_known_end.Goals as goal

pub returns-in-Value : goal.returns-in-Value
returns-in-Value c = subst (λ w. IsTrue c.has_label.result ↔ IsKnownEnd c.args.inventory.now c.args.id.now w) (sym c.in-Value.is)
    (label_here c.args.inventory.now c.args.id.now c.in-Some.class.0 c.in-Value.label c.labels_of.result.now c.has_label.result c.in-Some.ensures (c.labels_of.ensures c.requires.classes) c.has_label.ensures)

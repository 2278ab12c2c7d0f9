use Rattle.std.proofs.Common.{subst, sym}
use Rattle.std.specs.Prelude.{◌↔◌, IsTrue}
use Rattle.circuit_spec.specs.Faults.{IsHere}
use Rattle.rule_replay.proofs.Ending.{label_here}
use Rattle.rule_replay.proofs.known.is_here.Goals as goal

pub returns-in-Value : goal.returns-in-Value
returns-in-Value c class at = subst (λ w. IsTrue c.has_label.result ↔ IsHere c.args.inventory.now class w) (sym c.in-Value.is)
    (label_here c.args.inventory.now c.args.number.0 class c.labels_of.result.now c.in-Value.label c.has_label.result at (c.labels_of.ensures c.requires.sound.classes) c.has_label.ensures)

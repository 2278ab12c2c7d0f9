use Rattle.std.proofs.Common.{subst, sym, true}
use Rattle.std.specs.Prelude.{◌↔◌, IsTrue}
use Rattle.circuit_spec.specs.Faults.{IsHere}
use Rattle.rule_replay.specs.Ends.{HasWished}
use Rattle.rule_replay.proofs.Ending.{wished_any, wished_value}
use Rattle.rule_replay.proofs.known.has_wished.Goals as goal

pub returns-in-Any : goal.returns-in-Any
returns-in-Any c class at here = subst (λ w. IsTrue c.has_place.result ↔ HasWished c.args.inventory.now class w) (sym c.in-Any.is)
    (wished_any c.args.inventory.now c.args.number.0 class c.labels_of.result.now c.has_place.result at (c.labels_of.ensures c.requires.sound.classes) c.has_place.ensures)

pub returns-in-Value : goal.returns-in-Value
returns-in-Value c class at here = subst (λ w. IsTrue true ↔ HasWished c.args.inventory.now class w) (sym c.in-Value.is)
    (wished_value c.args.inventory.now class c.in-Value.field-0 (subst (λ w. IsHere c.args.inventory.now class w) c.in-Value.is here))

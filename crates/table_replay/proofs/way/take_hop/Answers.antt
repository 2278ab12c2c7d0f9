use Rattle.std.proofs.Common.{ap, Err}
use Rattle.packet_replay.specs.declared.faults.StepFault.TheVariants.{NoHop, Label, Frame}
use Rattle.packet_replay.proofs.Refusing.{refusal_tells}
use Rattle.table_replay.proofs.way.take_hop.Goals as goal

pub returns-in-Err-NoHop-clause-moves : goal.returns-in-Err-NoHop-clause-moves
returns-in-Err-NoHop-clause-moves c =
    (refusal_tells c.args.inventory.now c.args.replay.now.room c.args.replay.now.unit c.args.hop.now NoHop (c.in-Err-NoHop.ensures.no_hop.0 (ap (λ f. Err f) c.in-Err-NoHop.field-0-is)), c.in-Err-NoHop.ensures.unchanged)

pub returns-in-Err-Label-clause-moves : goal.returns-in-Err-Label-clause-moves
returns-in-Err-Label-clause-moves c =
    (refusal_tells c.args.inventory.now c.args.replay.now.room c.args.replay.now.unit c.args.hop.now Label (c.in-Err-Label.ensures.label.0 (ap (λ f. Err f) c.in-Err-Label.field-0-is)), c.in-Err-Label.ensures.unchanged)

pub returns-in-Err-Frame-clause-moves : goal.returns-in-Err-Frame-clause-moves
returns-in-Err-Frame-clause-moves c =
    (refusal_tells c.args.inventory.now c.args.replay.now.room c.args.replay.now.unit c.args.hop.now Frame (c.in-Err-Frame.ensures.frame.0 (ap (λ f. Err f) c.in-Err-Frame.field-0-is)), c.in-Err-Frame.ensures.unchanged)

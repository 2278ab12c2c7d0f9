use Rattle.std.proofs.Common.{arith}
use Rattle.layer_check.specs.Comparing.{differs_from}
use Rattle.layer_check.proofs.Fitting.{none_at_all, none_more}
use Rattle.layer_check.proofs.members.first_other_member.Goals as goal

pub returns-then-is_other_member : goal.returns-then-is_other_member
returns-then-is_other_member c = (c.is_other_member.ensures.0 c.if-is_other_member.true, c.loop-number.invariant)

pub loop-number-preserved : goal.loop-number-preserved
loop-number-preserved c =
    none_more c.args.inventory.now (differs_from c.args.reference) c.args.class.0 c.loop-number.number c.is_other_member.result c.loop-number.invariant c.is_other_member.ensures.1 c.if-is_other_member.false

pub returns : goal.returns
returns c =
    none_at_all c.args.inventory.now (differs_from c.args.reference) c.args.class.0 c.loop-number.number (omega arith) c.loop-number.invariant

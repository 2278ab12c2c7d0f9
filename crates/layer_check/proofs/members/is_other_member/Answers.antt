use Rattle.std.proofs.Common.{◌∙◌, sym}
use Rattle.layer_check.specs.Comparing.{differs_from}
use Rattle.layer_check.proofs.Fitting.{member_iff, no_member}
use Rattle.layer_check.proofs.members.is_other_member.Goals as goal

pub returns-then-eq : goal.returns-then-eq
returns-then-eq c =
    member_iff c.args.inventory.now (differs_from c.args.reference) c.args.port.0 c.class.result.0 c.args.class.0 c.differs.result c.class.ensures (sym c.eq.ensures ∙ c.if-eq.true) c.differs.ensures

pub returns-else-eq : goal.returns-else-eq
returns-else-eq c =
    no_member c.args.inventory.now (differs_from c.args.reference) c.args.port.0 c.class.result.0 c.args.class.0 c.eq.result c.is_merged.ensures c.class.ensures c.eq.ensures c.if-eq.false

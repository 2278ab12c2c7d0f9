use Rattle.std.proofs.Common.{◌∙◌, sym, arith}
use Rattle.layer_check.specs.Related.{is_other_at}
use Rattle.layer_check.proofs.Searching.{find_more, find_there}
use Rattle.layer_check.proofs.related.first_other.Goals as goal

pub returns-then-differs : goal.returns-then-differs
returns-then-differs c =
    find_there (is_other_at c.args.inventory.now c.args.reference) c.args.numbers.now c.loop-port.port-index (record { 0 = 0 }) (omega arith) c.loop-port.invariant (sym c.differs.ensures ∙ c.if-differs.true)

pub loop-port-preserved : goal.loop-port-preserved
loop-port-preserved c =
    find_more (is_other_at c.args.inventory.now c.args.reference) c.args.numbers.now c.loop-port.port-index (record { 0 = 0 }) (omega arith) c.loop-port.invariant (sym c.differs.ensures ∙ c.if-differs.false)

use Rattle.std.proofs.Common.{inr, refl}
use Rattle.kept_table.proofs.Known.{no_own_class}
use Rattle.kept_table.proofs.gathering.with_class.Goals as goal

pub returns-then-class-port : goal.returns-then-class-port
returns-then-class-port c =
    let k = c.class.ensures in
    (k.port, k.is_port, inr (no_own_class c.args.inventory.now c.args.port.0 c.class.result.0 k c.is_merged.ensures c.if-class-port.true, refl))

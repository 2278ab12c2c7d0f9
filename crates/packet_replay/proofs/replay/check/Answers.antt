use Rattle.packet_replay.proofs.Refusing.{not_related}
use Rattle.packet_replay.proofs.replay.check.Goals as goal

pub returns-then-not-is_related-clause-err : goal.returns-then-not-is_related-clause-err
returns-then-not-is_related-clause-err c =
    let way = c.in-Some.ensures in
    (not_related c.args.inventory.now c.args.unit.now c.args.hop.now way.0 way.1.is_way c.is_related.result (c.is_related.ensures way.0 way.1) c.if-not-is_related.true, λ e. cc)

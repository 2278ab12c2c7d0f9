use Rattle.packet_replay.proofs.labels.are_open.Goals as goal

pub returns-then-is_open : goal.returns-then-is_open
returns-then-is_open c way are =
    let from = c.is_open.ensures c.args.hop.now.from way.from are.from in
    let to = c.is_open-then-is_open.ensures c.args.hop.now.to way.to are.to in
    (λ t. (from.0 c.if-is_open.true, to.0 t), λ p. to.1 p.1)

pub returns-else-is_open : goal.returns-else-is_open
returns-else-is_open c way are =
    let from = c.is_open.ensures c.args.hop.now.from way.from are.from in
    let closed = c.if-is_open.false in
    (λ t. absurd (cc), λ p. from.1 p.0)

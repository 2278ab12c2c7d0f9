use Rattle.std.proofs.Common.{sym, ◌∙◌, ap}
use Rattle.packet_replay.specs.Numbered.{kind_of}
use Rattle.packet_replay.proofs.Named.{element_is}
use Rattle.packet_replay.proofs.Ported.{related_known}
use Rattle.packet_replay.proofs.relating.relates.Goals as goal

pub returns-then-is_same_kind : goal.returns-then-is_same_kind
returns-then-is_same_kind c way are =
    let e = element_is c.args.inventory.now c.args.numbers.element way.placed c.element_at.result.now are.element_at c.element_at.ensures in
    related_known c.args.inventory.now c.is_merged.ensures c.args.hop.now way c.args.numbers are c.in-Some.kind c.relates_by.result
    (c.is_same_kind.ensures.0 c.if-is_same_kind.true) (sym c.in-Some.is ∙ c.kind_of.ensures ∙ ap kind_of e)
    (c.relates_by.ensures way.placed are.from.port are.to.port are.element_at are.from.port_at are.to.port_at)

use Rattle.std.proofs.Common.{sym, ◌∙◌}
use Rattle.packet_replay.proofs.Named.{no_way, way_found}
use Rattle.packet_replay.proofs.numbers.numbers_of.Goals as goal

pub returns-in_default : goal.returns-in_default
returns-in_default c = no_way c.args.inventory.now c.args.hop.now c.text.result.now c.text.ensures.text (sym c.in_default.is ∙ c.element_no.ensures)

pub returns : goal.returns
returns c =
    way_found c.args.inventory.now c.args.hop.now c.text.result.now c.in-Some.element c.in-Some-end_of.from c.in-Some-end_of-2.to
    c.text.ensures.text (sym c.in-Some.is ∙ c.element_no.ensures) c.in-Some-end_of.ensures c.in-Some-end_of-2.ensures

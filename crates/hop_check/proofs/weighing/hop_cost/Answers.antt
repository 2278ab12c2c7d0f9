use Rattle.std.proofs.Common.{sym, ◌∙◌, ap}
use Rattle.std.specs.Prelude.{option_copied}
use Rattle.hop_check.proofs.Costs.{no_cost, element_there, its_cost}
use Rattle.hop_check.proofs.weighing.hop_cost.Goals as goal

pub returns-in_default : goal.returns-in_default
returns-in_default c = no_cost c.args.inventory.now c.args.hop.now c.text.result.now c.text.ensures.text (sym c.in_default.is ∙ c.element_no.ensures)

pub unreachable-requires : goal.unreachable-requires
unreachable-requires c =
    element_there c.args.inventory.now c.args.hop.now c.text.result.now c.text.ensures.text c.in-Some.number (sym c.in-Some.is ∙ c.element_no.ensures)
    (ap option_copied (sym c.in_default-element.is) ∙ c.element.ensures)

pub returns : goal.returns
returns c =
    c.element_cost.ensures
    ∙ its_cost c.args.inventory.now c.args.hop.now c.text.result.now c.text.ensures.text c.in-Some.number (sym c.in-Some.is ∙ c.element_no.ensures) c.in-Some-element.element.now
    (ap option_copied (sym c.in-Some-element.is) ∙ c.element.ensures)

use Rattle.std.proofs.Common.{◌∙◌, sym, ap}
use Rattle.nml_inventory.specs.Numbers.{element_number}
use Rattle.nml_inventory.proofs.Once.{open_by}
use Rattle.nml_inventory.proofs.references.is_open.Goals as goal

pub returns-in-Some : goal.returns-in-Some
returns-in-Some c = sym (open_by c.args.numbered.now c.args.id.now _ (ap (element_number c.args.numbered.now) (sym c.text.ensures.text) ∙ sym c.in-Some.ensures))

pub returns-in-None : goal.returns-in-None
returns-in-None c = sym (open_by c.args.numbered.now c.args.id.now _ (ap (element_number c.args.numbered.now) (sym c.text.ensures.text) ∙ sym c.in-None.ensures))

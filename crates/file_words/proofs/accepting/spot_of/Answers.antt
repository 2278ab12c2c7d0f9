use Rattle.std.proofs.Common.{◌∙◌, sym, ap}
use Rattle.file_words.specs.Lines.{spot_of}
use Rattle.file_words.proofs.Spots.{spot_is, spot_nowhere}
use Rattle.file_words.proofs.accepting.spot_of.Goals as goal

pub returns-in-Some : goal.returns-in-Some
returns-in-Some c = spot_is c.args.inventory.now c.text.result.now c.in-Some.number c.spot.result (sym c.in-Some.is ∙ c.element_no.ensures) c.spot.ensures ∙ ap (spot_of c.args.inventory.now) c.text.ensures.text

pub returns-in-None : goal.returns-in-None
returns-in-None c = spot_nowhere c.args.inventory.now c.text.result.now (sym c.in-None.is ∙ c.element_no.ensures) ∙ ap (spot_of c.args.inventory.now) c.text.ensures.text

use Rattle.std.proofs.Common.{◌∙◌, sym}
use Rattle.line_text.proofs.Numbers.{cut_here, uncut_here}
use Rattle.line_text.proofs.reading.cut.Goals as goal

pub returns-in-Some : goal.returns-in-Some
returns-in-Some c = cut_here c.args.mark c.args.bytes.now c.in-Some.at (sym c.place_of.ensures ∙ c.in-Some.is)

pub returns-in-None : goal.returns-in-None
returns-in-None c = uncut_here c.args.mark c.args.bytes.now (sym c.place_of.ensures ∙ c.in-None.is)

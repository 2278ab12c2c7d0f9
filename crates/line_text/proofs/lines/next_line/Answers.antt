use Rattle.std.proofs.Common.{◌∙◌, sym}
use Rattle.line_text.proofs.Numbers.{cut_here, uncut_here}
use Rattle.line_text.proofs.lines.next_line.Goals as goal

pub returns-in-Some-clause-cut : goal.returns-in-Some-clause-cut
returns-in-Some-clause-cut c = cut_here 10 c.args.rest.now c.in-Some.at (sym c.place_of.ensures ∙ c.in-Some.is)

pub returns-in-None-clause-cut : goal.returns-in-None-clause-cut
returns-in-None-clause-cut c = uncut_here 10 c.args.rest.now (sym c.place_of.ensures ∙ c.in-None.is)

use Rattle.std.proofs.Common.{sym, ◌∙◌, ap}
use Rattle.std.specs.Prelude.{option_copied}
use Rattle.hop_check.specs.Visits.{first_at}
use Rattle.hop_check.proofs.Visited.{noted_first, same_found}
use Rattle.hop_check.proofs.flagging.visit.Goals as goal

pub returns-in_ok-note-in-None-clause-noted : goal.returns-in_ok-note-in-None-clause-noted
returns-in_ok-note-in-None-clause-noted c q =
    let none = sym c.get.ensures.value ∙ ap option_copied c.in-None.is in
    noted_first (first_at c.args.visited.now q) (first_at c.note.new.visited q) c.args.at c.args.place q (same_found (first_at c.args.visited.now) c.args.place q _ none) (c.in_ok-note-in-None.ensures q)

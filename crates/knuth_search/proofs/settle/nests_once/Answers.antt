use Rattle.std.proofs.Common.{rules}
use Rattle.knuth_search.specs.Following.{Closes, SomePot}
use Rattle.knuth_search.specs.Overtaken.{IsOvertaken}
use Rattle.knuth_search.specs.Tables.{pot_of}
use Rattle.knuth_search.proofs.Overtaking.{offers_done, overtaken_offered}
use Rattle.knuth_search.proofs.settle.nests_once.Goals as goal

pub returns-then-overtake-clause-offers : goal.returns-then-overtake-clause-offers
returns-then-overtake-clause-offers c =
    let over : IsOvertaken c.args.setting.machine.now.steps c.args.table.now.pots (pot_of c.args.prev) c.step-pushed.result = search rules in
    offers_done (λ p. SomePot c.args.table.now.pots (λ inner p. Closes c.args.setting.machine.now.steps (pot_of c.args.prev) c.args.number inner p) p) _
    (overtaken_offered c.args.setting.machine.now.steps c.args.table.now.pots _ (pot_of c.args.prev) c.args.number c.step-pushed.result c.step-pushed.ensures.found over c.requires.nested)

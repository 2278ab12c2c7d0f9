use Rattle.std.proofs.Common.{arith, ◌≡◌, [], length}
use Rattle.std.proofs.lemmas.List.Elements.{AllWithin-upto, All-from_all_within}
use Rattle.knuth_search.proofs.Lanes.{pots_none}
use Rattle.knuth_search.proofs.queue.first_waiting.Goals as goal

pub returns-clause-none : goal.returns-clause-none
returns-clause-none c = pots_none c.args.lanes.now (All-from_all_within (λ l. l ≡ []) c.args.lanes.now
    (AllWithin-upto (λ l. l ≡ []) c.args.lanes.now 0 c.loop-number.number (length c.args.lanes.now) (omega arith) c.loop-number.invariant))

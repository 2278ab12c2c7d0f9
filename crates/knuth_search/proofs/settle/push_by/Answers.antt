use Rattle.knuth_search.specs.Following.{OpenedBy, Closes, PushedBy, SomePot}
use Rattle.knuth_search.specs.Tables.{pot_of}
use Rattle.knuth_search.proofs.Offering.{offers_then}
use Rattle.knuth_search.proofs.Overtaking.{nested_kept}
use Rattle.knuth_search.proofs.settle.push_by.Goals as goal

pub nests_once-requires-clause-nested : goal.nests_once-requires-clause-nested
nests_once-requires-clause-nested c = nested_kept c.args.setting.machine.now.steps c.args.table.now.pots _ _ _ c.in_ok-open.ensures.offers c.requires.nested

pub returns-clause-offers : goal.returns-clause-offers
returns-clause-offers c = offers_then (OpenedBy c.args.setting.machine.now.steps (pot_of c.args.prev) c.args.number) (λ p. SomePot c.args.table.now.pots (λ inner p. Closes c.args.setting.machine.now.steps (pot_of c.args.prev) c.args.number inner p) p) (PushedBy c.args.setting.machine.now.steps c.args.table.now.pots (pot_of c.args.prev) c.args.number) _ _ _ c.in_ok-open.ensures.offers c.in_ok-nests_once.ensures.offers (λ p u. u)

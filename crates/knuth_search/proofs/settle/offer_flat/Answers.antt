use Rattle.segment_grammar.specs.Pots.{pot}
use Rattle.knuth_search.specs.Following.{FlatBy}
use Rattle.knuth_search.specs.Tables.{pot_of}
use Rattle.knuth_search.proofs.Deriving.{keeps_there}
use Rattle.knuth_search.proofs.Offering.{offers_pushed, flat_is}
use Rattle.knuth_search.proofs.settle.offer_flat.Goals as goal

pub flat-requires-clause-keeps : goal.flat-requires-clause-keeps
flat-requires-clause-keeps c = keeps_there c.args.setting.machine.now.steps (pot_of c.args.prev) c.args.prev.deriv.now c.requires.kept.last c.args.number c.requires.flat

pub returns-clause-offers : goal.returns-clause-offers
returns-clause-offers c = offers_pushed (FlatBy c.args.setting.machine.now.steps (pot_of c.args.prev) c.args.number) c.args.queue.now c.push.new.self (pot c.args.prev.root c.step-step.result.to c.stepped.result) c.in_ok-push.ensures.offers
    (flat_is c.args.setting.machine.now.steps (pot_of c.args.prev) c.args.number c.step-step.result c.step-step.ensures.found c.stepped.result c.stepped.ensures)

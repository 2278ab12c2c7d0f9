use Rattle.std.proofs.Common.{ap, ◌∙◌}
use Rattle.ml_base.specs.Weight.{capped_total}
use Rattle.segment_grammar.specs.Pots.{pot}
use Rattle.knuth_search.specs.Following.{stepped, NestedBy}
use Rattle.knuth_search.specs.Tables.{pot_of}
use Rattle.knuth_search.proofs.Deriving.{encloses_there}
use Rattle.knuth_search.proofs.Offering.{offers_pushed, nested_is}
use Rattle.knuth_search.proofs.settle.offer_nest.Goals as goal

pub nest-requires-clause-encloses : goal.nest-requires-clause-encloses
nest-requires-clause-encloses c = encloses_there c.args.queue.now.task c.args.setting.machine.now.steps (pot_of c.args.prev) (pot_of c.args.inner) c.args.prev.deriv.now c.args.inner.deriv.now c.requires.kept.last c.requires.inner.last c.requires.inner.first c.args.push c.args.pop c.requires.meets

pub returns-clause-offers : goal.returns-clause-offers
returns-clause-offers c =
    offers_pushed (NestedBy c.args.setting.machine.now.steps (pot_of c.args.prev) c.args.push (pot_of c.args.inner) c.args.pop) c.args.queue.now c.push.new.self (pot c.args.prev.root c.step-popped.result.to c.stepped-2.result) c.in_ok-push.ensures.offers
    (nested_is c.args.setting.machine.now.steps (pot_of c.args.prev) c.args.push c.step-pushed.result c.step-pushed.ensures.found (pot_of c.args.inner) c.args.pop c.step-popped.result c.step-popped.ensures.found c.stepped-2.result
    (c.stepped-2.ensures ∙ ap (λ v. stepped v c.step-popped.result) (c.plus-base.ensures ∙ ap (λ v. capped_total v c.args.inner.weight) c.stepped.ensures)))

use Rattle.std.proofs.Common.{arith, ◌∙◌}
use Rattle.std.proofs.Math.ListN.{get_or}
use Rattle.std.proofs.lemmas.Option.{slice_get-get_or}
use Rattle.segment_grammar.specs.Index.{step_no}
use Rattle.knuth_search.specs.Following.{NestedBy, Closes}
use Rattle.knuth_search.specs.Tables.{pot_of}
use Rattle.knuth_search.proofs.Offering.{offers_more, offers_listed, meets_listed, closes_listed}
use Rattle.knuth_search.proofs.settle.close.Goals as goal

pub offer_nest-requires-clause-meets : goal.offer_nest-requires-clause-meets
offer_nest-requires-clause-meets c = meets_listed c.args.setting.machine.now.steps (pot_of c.args.prev) c.args.push (pot_of c.args.inner) c.requires.pops.step c.requires.pops.found c.args.pops.now c.requires.pops.listed c.requires.enters c.loop-number.number (get_or c.args.pops.now c.loop-number.number (step_no 0)) (slice_get-get_or c.args.pops.now c.loop-number.number (step_no 0) c.loop-number-test.true)

pub loop-number-preserved : goal.loop-number-preserved
loop-number-preserved c = record {
  offers = offers_more (λ k p. NestedBy c.args.setting.machine.now.steps (pot_of c.args.prev) c.args.push (pot_of c.args.inner) k p) c.args.pops.now c.loop-number.number (get_or c.args.pops.now c.loop-number.number (step_no 0)) (slice_get-get_or c.args.pops.now c.loop-number.number (step_no 0) c.loop-number-test.true) _ _ _ c.loop-number.invariant.offers c.in_ok-offer_nest.ensures.offers;
  task = c.offer_nest.ensures.task ∙ c.loop-number.invariant.task;
}

pub returns-clause-offers : goal.returns-clause-offers
returns-clause-offers c = offers_listed (λ k p. NestedBy c.args.setting.machine.now.steps (pot_of c.args.prev) c.args.push (pot_of c.args.inner) k p) c.args.pops.now (λ p. Closes c.args.setting.machine.now.steps (pot_of c.args.prev) c.args.push (pot_of c.args.inner) p) c.loop-number.number (omega arith)
    (λ p s. closes_listed c.args.setting.machine.now.steps (pot_of c.args.prev) c.args.push (pot_of c.args.inner) c.requires.pops.step c.requires.pops.found c.args.pops.now c.requires.pops.listed p s) _ _ c.loop-number.invariant.offers

use Rattle.std.proofs.Common.{arith, ◌∙◌, length}
use Rattle.std.proofs.Math.ListN.{get_or}
use Rattle.std.proofs.lemmas.Option.{slice_get-get_or}
use Rattle.segment_grammar.specs.Index.{step_no, IsFlatFrom}
use Rattle.knuth_search.specs.Following.{FlatBy, SomeStep}
use Rattle.knuth_search.specs.Tables.{pot_of}
use Rattle.knuth_search.proofs.Offering.{offers_more, offers_listed, listed_step, step_listed}
use Rattle.knuth_search.proofs.settle.flats.Goals as goal

pub offer_flat-requires-clause-flat : goal.offer_flat-requires-clause-flat
offer_flat-requires-clause-flat c = listed_step c.args.setting.machine.now.steps (length c.args.setting.machine.now.steps) (IsFlatFrom c.args.prev.state) c.flats-numbers.result.now (c.flats-numbers.ensures c.args.setting.machine.now c.requires.index) c.loop-number.number (get_or c.flats-numbers.result.now c.loop-number.number (step_no 0)) (slice_get-get_or c.flats-numbers.result.now c.loop-number.number (step_no 0) c.loop-number-test.true)

pub loop-number-preserved : goal.loop-number-preserved
loop-number-preserved c = record {
  offers = offers_more (λ k p. FlatBy c.args.setting.machine.now.steps (pot_of c.args.prev) k p) c.flats-numbers.result.now c.loop-number.number (get_or c.flats-numbers.result.now c.loop-number.number (step_no 0)) (slice_get-get_or c.flats-numbers.result.now c.loop-number.number (step_no 0) c.loop-number-test.true) _ _ _ c.loop-number.invariant.offers c.in_ok-offer_flat.ensures.offers;
  task = c.offer_flat.ensures.task ∙ c.loop-number.invariant.task;
}

pub returns-clause-offers : goal.returns-clause-offers
returns-clause-offers c = offers_listed (λ k p. FlatBy c.args.setting.machine.now.steps (pot_of c.args.prev) k p) c.flats-numbers.result.now (λ p. SomeStep (λ k p. FlatBy c.args.setting.machine.now.steps (pot_of c.args.prev) k p) p) c.loop-number.number (omega arith)
    (λ p s. (s.number, step_listed c.args.setting.machine.now.steps (IsFlatFrom c.args.prev.state) c.flats-numbers.result.now (c.flats-numbers.ensures c.args.setting.machine.now c.requires.index) s.number s.gives.step, s.gives)) _ _ c.loop-number.invariant.offers

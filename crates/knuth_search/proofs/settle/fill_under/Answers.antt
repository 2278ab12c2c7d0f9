use Rattle.std.proofs.Common.{arith, ◌∙◌, length}
use Rattle.std.proofs.Math.ListN.{get_or}
use Rattle.std.proofs.lemmas.Option.{slice_get-get_or}
use Rattle.segment_grammar.specs.Index.{step_no, IsPushInto}
use Rattle.knuth_search.specs.Following.{Closes, Fills, SomePot}
use Rattle.knuth_search.specs.Tables.{pot_of}
use Rattle.knuth_search.proofs.Offering.{offers_more, offers_listed, listed_step, into_here, fills_listed}
use Rattle.knuth_search.proofs.settle.fill_under.Goals as goal

pub fill_by-requires-clause-into : goal.fill_by-requires-clause-into
fill_by-requires-clause-into c = into_here c.args.setting.machine.now.steps (get_or c.pushes_into-numbers.result.now c.loop-number.number (step_no 0)) c.args.inner.root c.args.entry c.requires.root (listed_step c.args.setting.machine.now.steps (length c.args.setting.machine.now.steps) (IsPushInto c.args.entry) c.pushes_into-numbers.result.now (c.pushes_into-numbers.ensures c.args.setting.machine.now c.requires.index) c.loop-number.number (get_or c.pushes_into-numbers.result.now c.loop-number.number (step_no 0)) (slice_get-get_or c.pushes_into-numbers.result.now c.loop-number.number (step_no 0) c.loop-number-test.true))

pub loop-number-preserved : goal.loop-number-preserved
loop-number-preserved c = record {
  offers = offers_more (λ k p. SomePot c.args.table.now.pots (λ prev p. Closes c.args.setting.machine.now.steps prev k (pot_of c.args.inner) p) p) c.pushes_into-numbers.result.now c.loop-number.number (get_or c.pushes_into-numbers.result.now c.loop-number.number (step_no 0)) (slice_get-get_or c.pushes_into-numbers.result.now c.loop-number.number (step_no 0) c.loop-number-test.true) _ _ _ c.loop-number.invariant.offers c.in_ok-fill_by.ensures.offers;
  task = c.fill_by.ensures.task ∙ c.loop-number.invariant.task;
}

pub returns-clause-offers : goal.returns-clause-offers
returns-clause-offers c = offers_listed (λ k p. SomePot c.args.table.now.pots (λ prev p. Closes c.args.setting.machine.now.steps prev k (pot_of c.args.inner) p) p) c.pushes_into-numbers.result.now (λ p. Fills c.args.setting.machine.now.steps c.args.table.now.pots (pot_of c.args.inner) p) c.loop-number.number (omega arith)
    (λ p s. fills_listed c.args.setting.machine.now.steps c.args.table.now.pots (pot_of c.args.inner) c.args.entry c.requires.root c.pushes_into-numbers.result.now (c.pushes_into-numbers.ensures c.args.setting.machine.now c.requires.index) p s) _ _ c.loop-number.invariant.offers

use Rattle.std.proofs.Common.{arith, ◌∙◌, length}
use Rattle.std.proofs.Math.ListN.{get_or}
use Rattle.std.proofs.lemmas.Option.{slice_get-get_or}
use Rattle.segment_grammar.specs.Index.{step_no, IsPushFrom}
use Rattle.knuth_search.specs.Following.{PushedBy, SomeStep}
use Rattle.knuth_search.specs.Tables.{pot_of}
use Rattle.knuth_search.proofs.Offering.{offers_more, offers_listed, listed_step, step_listed, pushed_step}
use Rattle.knuth_search.proofs.Overtaking.{nested_kept}
use Rattle.knuth_search.proofs.settle.pushes.Goals as goal

pub push_by-requires-clause-push : goal.push_by-requires-clause-push
push_by-requires-clause-push c = listed_step c.args.setting.machine.now.steps (length c.args.setting.machine.now.steps) (IsPushFrom c.args.prev.state) c.pushes-numbers.result.now (c.pushes-numbers.ensures c.args.setting.machine.now c.requires.index) c.loop-number.number (get_or c.pushes-numbers.result.now c.loop-number.number (step_no 0)) (slice_get-get_or c.pushes-numbers.result.now c.loop-number.number (step_no 0) c.loop-number-test.true)

pub push_by-requires-clause-nested : goal.push_by-requires-clause-nested
push_by-requires-clause-nested c = nested_kept c.args.setting.machine.now.steps c.args.table.now.pots _ _ _ c.loop-number.invariant.offers c.requires.nested

pub loop-number-preserved : goal.loop-number-preserved
loop-number-preserved c = record {
  offers = offers_more (λ k p. PushedBy c.args.setting.machine.now.steps c.args.table.now.pots (pot_of c.args.prev) k p) c.pushes-numbers.result.now c.loop-number.number (get_or c.pushes-numbers.result.now c.loop-number.number (step_no 0)) (slice_get-get_or c.pushes-numbers.result.now c.loop-number.number (step_no 0) c.loop-number-test.true) _ _ _ c.loop-number.invariant.offers c.in_ok-push_by.ensures.offers;
  task = c.push_by.ensures.task ∙ c.loop-number.invariant.task;
}

pub returns-clause-offers : goal.returns-clause-offers
returns-clause-offers c = offers_listed (λ k p. PushedBy c.args.setting.machine.now.steps c.args.table.now.pots (pot_of c.args.prev) k p) c.pushes-numbers.result.now (λ p. SomeStep (λ k p. PushedBy c.args.setting.machine.now.steps c.args.table.now.pots (pot_of c.args.prev) k p) p) c.loop-number.number (omega arith)
    (λ p s. (s.number, step_listed c.args.setting.machine.now.steps (IsPushFrom c.args.prev.state) c.pushes-numbers.result.now (c.pushes-numbers.ensures c.args.setting.machine.now c.requires.index) s.number (pushed_step c.args.setting.machine.now.steps c.args.table.now.pots (pot_of c.args.prev) s.number p s.gives), s.gives)) _ _ c.loop-number.invariant.offers

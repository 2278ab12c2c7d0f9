use Rattle.std.proofs.Common.{◌<◌, length, arith}
use Rattle.std.specs.Prelude.{true, false}
use Rattle.std.proofs.lemmas.List.Elements.{All-get_or, All-more}
use Rattle.ml_base.specs.declared.numbers.StepNo.{StepNo}
use Rattle.segment_grammar.specs.Index.{IsPushFrom}
use Rattle.segment_grammar.proofs.Rising.{accepted, refuted}
use Rattle.pair_check.specs.Exits.{NestsBy}
use Rattle.pair_check.specs.Rules.{IsNestedBy}
use Rattle.pair_check.proofs.Loops.{all_passed, one_failed}
use Rattle.pair_check.proofs.Rows.{row_below, row_tested}
use Rattle.pair_check.proofs.nesting.is_nested.Goals as goal

pub nests_once-requires-clause-below : goal.nests_once-requires-clause-below
nests_once-requires-clause-below c = All-get_or (λ (k : StepNo). k.0 < length c.args.machine.now.steps) c.pushes-push-items.result.now c.loop-push.push-index _ c.loop-push-test.true
    (row_below c.args.machine.now.steps (IsPushFrom c.args.pair.state) c.pushes-push-items.result.now (c.pushes-push-items.ensures c.args.machine.now c.requires.indexed))

pub returns-then-not-nests-clause-nests : goal.returns-then-not-nests-clause-nests
returns-then-not-nests-clause-nests c =
    row_tested c.args.machine.now.steps (IsPushFrom c.args.pair.state) c.pushes-push-items.result.now (c.pushes-push-items.ensures c.args.machine.now c.requires.indexed)
    (IsNestedBy c.args.machine.now.steps c.args.noted.now.pots.now c.args.pair) false
    (one_failed (NestsBy c.args.machine.now.steps c.args.noted.now.pots.now c.args.pair) c.pushes-push-items.result.now c.loop-push.push-index _
    c.loop-push-test.true (refuted _ c.in_ok-nests.ensures.nests c.if-not-nests.true))

pub loop-push-preserved : goal.loop-push-preserved
loop-push-preserved c = record {
  found = c.in_ok-nests.ensures.found;
  nests = All-more (NestsBy c.args.machine.now.steps c.args.noted.now.pots.now c.args.pair) c.pushes-push-items.result.now c.loop-push.push-index _
      c.loop-push-test.true c.loop-push.invariant.nests (accepted _ c.in_ok-nests.ensures.nests c.if-not-nests.false);
}

pub returns-clause-nests : goal.returns-clause-nests
returns-clause-nests c =
    row_tested c.args.machine.now.steps (IsPushFrom c.args.pair.state) c.pushes-push-items.result.now (c.pushes-push-items.ensures c.args.machine.now c.requires.indexed)
    (IsNestedBy c.args.machine.now.steps c.args.noted.now.pots.now c.args.pair) true
    (all_passed (NestsBy c.args.machine.now.steps c.args.noted.now.pots.now c.args.pair) c.pushes-push-items.result.now c.loop-push.push-index (omega arith) c.loop-push.invariant.nests)

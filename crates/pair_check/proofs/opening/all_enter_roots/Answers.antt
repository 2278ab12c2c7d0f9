use Rattle.std.proofs.Common.{◌<◌, length, arith}
use Rattle.std.proofs.lemmas.List.Elements.{All-get_or, All-more}
use Rattle.ml_base.specs.declared.numbers.StepNo.{StepNo}
use Rattle.segment_grammar.proofs.Rising.{accepted, refuted}
use Rattle.pair_check.specs.Exits.{EntersRoot}
use Rattle.pair_check.proofs.Loops.{all_passed, one_failed}
use Rattle.pair_check.proofs.opening.all_enter_roots.Goals as goal

pub enters_root-requires-clause-below : goal.enters_root-requires-clause-below
enters_root-requires-clause-below c =
    All-get_or (λ (k : StepNo). k.0 < length c.args.machine.now.steps) c.args.steps.now c.loop-step.step-index _ c.loop-step-test.true c.requires.below

pub loop-step-preserved : goal.loop-step-preserved
loop-step-preserved c =
    All-more (EntersRoot c.args.machine.now.steps c.args.pots.now) c.args.steps.now c.loop-step.step-index _ c.loop-step-test.true
    c.loop-step.invariant (accepted _ c.enters_root.ensures c.if-not-enters_root.false)

pub returns-then-not-enters_root : goal.returns-then-not-enters_root
returns-then-not-enters_root c =
    one_failed (EntersRoot c.args.machine.now.steps c.args.pots.now) c.args.steps.now c.loop-step.step-index _ c.loop-step-test.true
    (refuted _ c.enters_root.ensures c.if-not-enters_root.true)

pub returns : goal.returns
returns c = all_passed (EntersRoot c.args.machine.now.steps c.args.pots.now) c.args.steps.now c.loop-step.step-index (omega arith) c.loop-step.invariant

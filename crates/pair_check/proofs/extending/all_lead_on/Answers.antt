use Rattle.std.proofs.Common.{◌<◌, length, arith}
use Rattle.std.proofs.lemmas.List.Elements.{All-get_or, All-more}
use Rattle.ml_base.specs.declared.numbers.StepNo.{StepNo}
use Rattle.segment_grammar.proofs.Rising.{accepted, refuted}
use Rattle.pair_check.specs.Exits.{LeadsOn}
use Rattle.pair_check.proofs.Loops.{all_passed, one_failed}
use Rattle.pair_check.proofs.extending.all_lead_on.Goals as goal

pub leads_on-requires : goal.leads_on-requires
leads_on-requires c = All-get_or (λ (k : StepNo). k.0 < length c.args.machine.now.steps) c.args.steps.now c.loop-step.step-index _ c.loop-step-test.true c.requires

pub loop-step-preserved : goal.loop-step-preserved
loop-step-preserved c =
    All-more (LeadsOn c.args.machine.now.steps c.args.noted.now.pots.now c.args.pair.root c.args.pair.weight) c.args.steps.now c.loop-step.step-index _
    c.loop-step-test.true c.loop-step.invariant (accepted _ c.leads_on.ensures c.if-not-leads_on.false)

pub returns-then-not-leads_on : goal.returns-then-not-leads_on
returns-then-not-leads_on c =
    one_failed (LeadsOn c.args.machine.now.steps c.args.noted.now.pots.now c.args.pair.root c.args.pair.weight) c.args.steps.now c.loop-step.step-index _
    c.loop-step-test.true (refuted _ c.leads_on.ensures c.if-not-leads_on.true)

pub returns : goal.returns
returns c =
    all_passed (LeadsOn c.args.machine.now.steps c.args.noted.now.pots.now c.args.pair.root c.args.pair.weight) c.args.steps.now c.loop-step.step-index (omega arith) c.loop-step.invariant

use Rattle.std.proofs.Common.{arith}
use Rattle.std.proofs.lemmas.List.Elements.{All-more}
use Rattle.segment_grammar.proofs.Rising.{accepted, refuted}
use Rattle.pair_check.specs.Exits.{LeadsOut}
use Rattle.pair_check.proofs.Loops.{all_passed, one_failed}
use Rattle.pair_check.proofs.nesting.all_lead_out.Goals as goal

pub loop-exit-preserved : goal.loop-exit-preserved
loop-exit-preserved c =
    All-more (LeadsOut c.args.machine.now.steps c.args.noted.now.pots.now c.args.root c.args.weight) c.args.exits.now c.loop-exit.exit-index _
    c.loop-exit-test.true c.loop-exit.invariant (accepted _ c.leads_out.ensures c.if-not-leads_out.false)

pub returns-then-not-leads_out : goal.returns-then-not-leads_out
returns-then-not-leads_out c =
    one_failed (LeadsOut c.args.machine.now.steps c.args.noted.now.pots.now c.args.root c.args.weight) c.args.exits.now c.loop-exit.exit-index _
    c.loop-exit-test.true (refuted _ c.leads_out.ensures c.if-not-leads_out.true)

pub returns : goal.returns
returns c = all_passed (LeadsOut c.args.machine.now.steps c.args.noted.now.pots.now c.args.root c.args.weight) c.args.exits.now c.loop-exit.exit-index (omega arith) c.loop-exit.invariant

use Rattle.segment_grammar.proofs.Rising.{accepted}
use Rattle.pair_check.proofs.Popping.{none_by, none_listed, one_by}
use Rattle.pair_check.proofs.exits.add_exit_by.Goals as goal

pub returns-in_default : goal.returns-in_default
returns-in_default c =
    none_by c.args.machine.now.steps c.args.pots.now c.args.entered c.args.frame c.args.pop c.args.exits.now.items
    (none_listed c.args.machine.now.steps c.args.pots.now c.args.entered c.args.frame c.args.pop c.step-step.result c.step-step.ensures.found c.in_default.ensures.none)

pub returns : goal.returns
returns c =
    one_by c.args.machine.now.steps c.args.pots.now c.args.entered c.args.frame c.args.pop c.step-step.result c.step-step.ensures.found
    (accepted _ c.is_pop_of.ensures c.if-not-is_pop_of.false) c.in-Some.inner c.in-Some.ensures.some c.in-Some.ensures.only
    c.args.exits.now.items c.push_exit.new.exits.items c.in_ok-push_exit.ensures

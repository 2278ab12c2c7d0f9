use Rattle.std.proofs.Common.{arith, subst, sym}
use Rattle.marked_machine.specs.Product.{steps_at, steps_of, GoesOn}
use Rattle.marked_machine.proofs.GoingOn.{goes_none, goes_round, goes_done}
use Rattle.marked_machine.proofs.building.add_step.Goals as goal

pub loop-mark-init : goal.loop-mark-init
loop-mark-init c = goes_none c.args.steps.now

pub loop-mark-preserved : goal.loop-mark-preserved
loop-mark-preserved c = goes_round (steps_at c.args.marks.now c.args.number c.step-step.result) c.loop-mark.mark c.args.steps.now c.loop-mark.steps c.add_site.new.steps
    c.loop-mark.invariant c.in_ok-add_site.ensures

pub returns : goal.returns
returns c = subst (λ o. GoesOn c.args.steps.now (steps_of c.args.marks.now c.args.number.0 o) c.loop-mark.steps) (sym c.step-step.ensures.found)
    (goes_done (steps_at c.args.marks.now c.args.number c.step-step.result) c.loop-mark.mark c.args.marks.now.count c.args.steps.now c.loop-mark.steps (omega arith) c.loop-mark.invariant)

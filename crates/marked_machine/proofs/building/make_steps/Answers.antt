use Rattle.std.proofs.Common.{arith, ◌*◌, subst, sym, length, slice_get}
use Rattle.std.specs.List.{All}
use Rattle.adapt_machine.specs.Machine.{IsStepWithin}
use Rattle.marked_machine.specs.Product.{marked_steps, steps_of}
use Rattle.marked_machine.proofs.GoingOn.{AreMade, made_round, made_done}
use Rattle.marked_machine.proofs.Within.{all_within}
use Rattle.marked_machine.proofs.building.make_steps.Goals as goal

pub loop-number-init : goal.loop-number-init
loop-number-init c = record { steps = c.new-steps.ensures.steps; bases = c.new-steps.ensures.bases }

pub loop-number-preserved : goal.loop-number-preserved
loop-number-preserved c = made_round (λ k. steps_of c.args.marks.now k (slice_get c.args.machine.now.steps k)) c.loop-number.number c.loop-number.steps c.add_step.new.steps
    c.loop-number.invariant c.in_ok-add_step.ensures

pub returns-clause-steps : goal.returns-clause-steps
returns-clause-steps c = (made_done (λ k. steps_of c.args.marks.now k (slice_get c.args.machine.now.steps k)) c.loop-number.number (length c.args.machine.now.steps) c.loop-number.steps (omega arith) c.loop-number.invariant).steps

pub returns-clause-bases : goal.returns-clause-bases
returns-clause-bases c = (made_done (λ k. steps_of c.args.marks.now k (slice_get c.args.machine.now.steps k)) c.loop-number.number (length c.args.machine.now.steps) c.loop-number.steps (omega arith) c.loop-number.invariant).bases

pub returns-clause-within : goal.returns-clause-within
returns-clause-within c =
    let done : AreMade (marked_steps c.args.marks.now c.args.machine.now.steps) c.loop-number.steps =
    made_done (λ k. steps_of c.args.marks.now k (slice_get c.args.machine.now.steps k)) c.loop-number.number (length c.args.machine.now.steps) c.loop-number.steps (omega arith) c.loop-number.invariant in
    subst (All (IsStepWithin (c.args.machine.now.states * c.args.marks.now.count) (c.args.machine.now.frames * c.args.marks.now.frame_count))) (sym done.steps)
    (all_within c.args.machine.now c.args.marks.now c.steps-number-end.ensures.within)

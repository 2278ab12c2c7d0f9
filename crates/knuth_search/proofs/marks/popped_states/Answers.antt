use Rattle.std.proofs.Common.{arith, ◌∙◌}
use Rattle.adapt_machine.specs.declared.MachineKind.TheVariants.{Pop}
use Rattle.knuth_search.proofs.Marking.{marking_begun, marking_turn, marking_ended}
use Rattle.knuth_search.proofs.marks.popped_states.Goals as goal

pub loop-number-init : goal.loop-number-init
loop-number-init c = marking_begun c.args.machine.now Pop c.in_ok-marks.marks.items (c.in_ok-marks.ensures ∙ c.states.ensures)

pub loop-number-preserved : goal.loop-number-preserved
loop-number-preserved c = marking_turn c.args.machine.now Pop c.loop-number.number c.loop-number.marks.items c.mark.new.marks.items c.step.result c.step.ensures.found c.loop-number.invariant c.mark.ensures.rooms c.mark.ensures.here c.mark.ensures.kept

pub returns : goal.returns
returns c = marking_ended c.args.machine.now Pop c.loop-number.number c.loop-number.marks.items (omega arith) c.loop-number.invariant

use Rattle.std.specs.List.{flat_map, range_with_len}
use Rattle.marked_machine.specs.Product.{steps_at, GoesOn}
use Rattle.marked_machine.proofs.building.add_step.Given as goal

abbrev pub invariant-loop-mark : goal.invariant-loop-mark
invariant-loop-mark l = GoesOn l.fn.steps (flat_map (steps_at l.marks l.number l.step) (range_with_len 0 l.mark)) l.steps

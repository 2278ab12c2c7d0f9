use Rattle.std.specs.List.{flat_map, range_with_len}
use Rattle.marked_machine.specs.Product.{pop_at, GoesOn}
use Rattle.marked_machine.proofs.building.add_pops.Given as goal

abbrev pub invariant-loop-seen : goal.invariant-loop-seen
invariant-loop-seen l = GoesOn l.fn.steps (flat_map (pop_at l.marks l.site.number l.site.step l.site.mark) (range_with_len 0 l.seen)) l.steps

use Rattle.std.specs.Prelude.{slice_get}
use Rattle.std.specs.List.{flat_map, range_with_len}
use Rattle.marked_machine.specs.Product.{steps_of}
use Rattle.marked_machine.proofs.GoingOn.{AreMade}
use Rattle.marked_machine.proofs.building.make_steps.Given as goal

abbrev pub invariant-loop-number : goal.invariant-loop-number
invariant-loop-number l = AreMade (flat_map (λ k. steps_of l.marks k (slice_get l.machine.steps k)) (range_with_len 0 l.number)) l.steps

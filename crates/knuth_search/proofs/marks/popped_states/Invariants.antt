use Rattle.adapt_machine.specs.declared.MachineKind.TheVariants.{Pop}
use Rattle.knuth_search.proofs.Marking.{IsMarking}
use Rattle.knuth_search.proofs.marks.popped_states.Given as goal

abbrev pub invariant-loop-number : goal.invariant-loop-number
invariant-loop-number l = IsMarking l.machine Pop l.number l.marks.items

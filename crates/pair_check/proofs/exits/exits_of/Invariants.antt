use Rattle.std.proofs.Common.{take}
use Rattle.adapt_machine.specs.Machine.{MachineValue}
use Rattle.segment_grammar.specs.Index.{IsIndexOf}
use Rattle.pair_check.specs.Exits.{AreExitsOf}
use Rattle.pair_check.proofs.exits.exits_of.Given as goal

abbrev pub invariant-loop-pair : goal.invariant-loop-pair
invariant-loop-pair l = (machine : MachineValue) → IsIndexOf machine l.index → AreExitsOf machine.steps (take l.pair-index l.pairs) l.frame l.exits.items

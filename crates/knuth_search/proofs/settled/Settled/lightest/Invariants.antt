use Rattle.std.proofs.Common.{List, take}
use Rattle.ml_base.specs.declared.numbers.StateNo.{StateNo}
use Rattle.adapt_machine.specs.Machine.{MachineValue}
use Rattle.knuth_search.specs.Settled.{IsSettledOf, IsLightestOf}
use Rattle.knuth_search.proofs.settled.Settled.lightest.Given as goal

abbrev pub invariant-loop-number : goal.invariant-loop-number
invariant-loop-number l = (machine : MachineValue) (starts : List StateNo) → IsSettledOf machine starts l.self → IsLightestOf machine.steps starts (take l.number l.targets) l.best

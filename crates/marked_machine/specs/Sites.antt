-- Steps of a machine at marks.
use Rattle.std.specs.Prelude.{◌<◌}
use Rattle.adapt_machine.specs.Machine.{MachineValue, IsStepWithin}
use Rattle.marked_machine.specs.declared.building.Site.{Site}
use Rattle.marked_machine.specs.declared.marks.Marks.{Marks}

-- the numbers of the step are below the machine's, and the mark is one
pub record IsSite (m : MachineValue) (marks : Marks) (s : Site) : Type 0 where
  pub within : IsStepWithin m.states m.frames s.step
  pub mark : s.mark < marks.count

use Rattle.std.proofs.Common.{◌≡◌, filter, take}
use Rattle.nml_elements.specs.During.{stays}
use Rattle.nml_elements.proofs.windows.staying.Given as goal

abbrev pub invariant-loop-entry : goal.invariant-loop-entry
invariant-loop-entry l = l.staying ≡ filter (stays l.window) (take l.entry-index l.entries)

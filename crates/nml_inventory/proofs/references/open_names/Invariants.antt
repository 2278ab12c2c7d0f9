use Rattle.std.proofs.Common.{◌≡◌, map, take}
use Rattle.std.specs.Rc.{rc_str_bytes}
use Rattle.nml_inventory.specs.Relations.{open_names}
use Rattle.nml_inventory.proofs.references.open_names.Given as goal

abbrev pub invariant-loop-target : goal.invariant-loop-target
invariant-loop-target l = map rc_str_bytes l.ids.keys ≡ open_names l.numbered (take l.target-index l.targets)

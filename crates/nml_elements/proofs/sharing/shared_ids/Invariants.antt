use Rattle.std.proofs.Common.{◌≡◌, take}
use Rattle.nml_elements.proofs.sharing.shared_ids.Given as goal

abbrev pub invariant-loop-id : goal.invariant-loop-id
invariant-loop-id l = l.shared ≡ take l.id-index l.ids

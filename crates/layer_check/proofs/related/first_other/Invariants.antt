use Rattle.std.proofs.Common.{◌≡◌, None, take}
use Rattle.std.specs.List.{find}
use Rattle.layer_check.specs.Related.{is_other_at}
use Rattle.layer_check.proofs.related.first_other.Given as goal

abbrev pub invariant-loop-port : goal.invariant-loop-port
invariant-loop-port l = find (is_other_at l.inventory l.reference) (take l.port-index l.numbers) ≡ None

use Rattle.std.proofs.Common.{◌≡◌, map, []}
use Rattle.std.proofs.Math.ListN.{replicate}
use Rattle.nml_inventory.proofs.labels.no_parts.Given as goal

abbrev pub invariant-loop : goal.invariant-loop
invariant-loop l = map (λ v. v.items) l.lists.items ≡ replicate l.counter []

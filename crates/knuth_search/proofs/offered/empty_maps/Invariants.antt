use Rattle.std.proofs.Common.{◌≡◌, [], map, replicate}
use Rattle.knuth_search.proofs.offered.empty_maps.Given as goal

abbrev pub invariant-loop : goal.invariant-loop
invariant-loop l = map (λ m. m.entries) l.maps.items ≡ replicate l.counter []

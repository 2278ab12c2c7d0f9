use Rattle.std.proofs.Common.{◌≡◌, ◌++◌, drop}
use Rattle.open_places.specs.Gathering.{within_ranges}
use Rattle.open_places.proofs.gathering.add_ranges.Given as goal

abbrev pub invariant-loop-range : goal.invariant-loop-range
invariant-loop-range l = l.places.items ++ within_ranges l.class l.labels (drop l.range-index l.ranges) ≡ l.fn.places.items ++ within_ranges l.class l.labels l.ranges

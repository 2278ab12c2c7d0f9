use Rattle.std.proofs.Common.{◌≡◌, ◌++◌, drop}
use Rattle.open_places.specs.Gathering.{labelled}
use Rattle.open_places.proofs.gathering.add_labels.Given as goal

abbrev pub invariant-loop-label : goal.invariant-loop-label
invariant-loop-label l = l.places.items ++ labelled l.class (drop l.label-index l.labels) ≡ l.fn.places.items ++ labelled l.class l.labels

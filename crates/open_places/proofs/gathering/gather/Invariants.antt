use Rattle.open_places.specs.Gathering.{AreGathered}
use Rattle.open_places.proofs.gathering.gather.Given as goal

abbrev pub invariant-loop-number : goal.invariant-loop-number
invariant-loop-number l = AreGathered l.inventory l.kept l.number l.places.items

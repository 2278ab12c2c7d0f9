use Rattle.open_places.specs.Spans.{AreSpans}
use Rattle.open_places.proofs.spanning.spans_of.Given as goal

abbrev pub invariant-loop-number : goal.invariant-loop-number
invariant-loop-number l = AreSpans l.inventory l.places l.number l.spans.items

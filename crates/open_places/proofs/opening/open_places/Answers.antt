use Rattle.std.proofs.Common.{subst, length, List}
use Rattle.circuit_spec.specs.declared.hops.PlaceName.{PlaceName}
use Rattle.circuit_spec.specs.Network.{ports}
use Rattle.open_places.specs.Spans.{AreSpans}
use Rattle.open_places.proofs.Whole.{all_places, spans_stand}
use Rattle.open_places.proofs.opening.open_places.Goals as goal

pub new-requires : goal.new-requires
new-requires c =
    spans_stand c.args.inventory.now c.in_ok-places.places.items (length (ports c.args.inventory.now)) c.in_ok-spans.spans.items c.in_ok-places.ensures.rise
    (subst (λ (xs : List PlaceName). AreSpans c.args.inventory.now xs (length (ports c.args.inventory.now)) c.in_ok-spans.spans.items) c.as_slice.ensures.value c.in_ok-spans.ensures)

pub returns : goal.returns
returns c =
    all_places c.args.inventory.now c.args.kept.now c.new.result c.in_ok-gather.field-0.items c.in_ok-places.places.items c.in_ok-spans.spans.items c.new.ensures
    c.in_ok-gather.ensures c.in_ok-places.ensures.rise c.in_ok-places.ensures.same
    (subst (λ (xs : List PlaceName). AreSpans c.args.inventory.now xs (length (ports c.args.inventory.now)) c.in_ok-spans.spans.items) c.as_slice.ensures.value c.in_ok-spans.ensures)

use Rattle.open_places.proofs.Named.{named_id}
use Rattle.open_places.proofs.Whole.{spans_more}
use Rattle.open_places.proofs.spanning.spans_of.Goals as goal

pub loop-number-preserved : goal.loop-number-preserved
loop-number-preserved c =
    let named = named_id _ c.class-class.result.0 c.class-class.ensures.first c.name.result.now c.class-class.ensures.is_first c.name.ensures in
    spans_more c.args.inventory.now c.args.places.now c.loop-number.number c.class-class.result.0 c.name.result.now c.loop-number.spans.items c.push.new.self.items c.span_of.result c.loop-number.invariant c.class-class.ensures named c.span_of.ensures c.in-Ok.ensures.items

use Rattle.std.proofs.Common.{◌<◌, ap, length, arith, refl}
use Rattle.std.proofs.lemmas.Option.{slice_get_read}
use Rattle.open_places.specs.Places.{PlacesValue}
use Rattle.open_places.proofs.places.Places.span.Goals as goal

pub returns-clause-proper : goal.returns-clause-proper
returns-clause-proper c =
    let within : c.args.port.0 < length c.self.inside.spans.items = omega (arith, ap (λ (v : PlacesValue). length v.spans) c.self.view_is, c.requires) in
    (c.self.invariant.spans_are c.args.port.0 c.index.result.now (slice_get_read _ _ c.args.port.0 c.index.result.now refl within c.index.ensures)).1.proper

pub returns-clause-within : goal.returns-clause-within
returns-clause-within c =
    let within : c.args.port.0 < length c.self.inside.spans.items = omega (arith, ap (λ (v : PlacesValue). length v.spans) c.self.view_is, c.requires) in
    rw (← c.self.view_is) (c.self.invariant.spans_are c.args.port.0 c.index.result.now (slice_get_read _ _ c.args.port.0 c.index.result.now refl within c.index.ensures)).1.within

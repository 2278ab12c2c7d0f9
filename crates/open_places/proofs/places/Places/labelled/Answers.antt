use Rattle.std.proofs.Common.{◌∙◌, ap, List, rules}
use Rattle.std.specs.Prelude.{slice_get, slice_range}
use Rattle.std.proofs.lemmas.Fn.{always_returns_same}
use Rattle.circuit_spec.specs.declared.hops.PlaceName.{PlaceName}
use Rattle.open_places.specs.Places.{PlacesValue}
use Rattle.open_places.proofs.Searching.{by_label, label_found, label_missed}
use Rattle.open_places.proofs.places.Places.labelled.Goals as goal

pub in_span-states-requires-clause-proper : goal.in_span-states-requires-clause-proper
in_span-states-requires-clause-proper c =
    (c.self.invariant.spans_are c.requires.0 c.args.span (ap (λ (v : PlacesValue). slice_get v.spans c.requires.0) c.self.view_is ∙ c.requires.1)).1.proper

pub in_span-states-requires-clause-within : goal.in_span-states-requires-clause-within
in_span-states-requires-clause-within c =
    rw c.deref.ensures.value (c.self.invariant.spans_are c.requires.0 c.args.span (ap (λ (v : PlacesValue). slice_get v.spans c.requires.0) c.self.view_is ∙ c.requires.1)).1.within

pub returns-in-Ok : goal.returns-in-Ok
returns-in-Ok c =
    let is = c.self.invariant.spans_are c.requires.0 c.args.span (ap (λ (v : PlacesValue). slice_get v.spans c.requires.0) c.self.view_is ∙ c.requires.1) in
    rw (← c.self.view_is)
    (label_found _ c.args.span c.args.label c.in_span-states.result.now c.in-Ok.place is.0 is.1 (c.in_span-states.ensures ∙ ap (λ (xs : List PlaceName). slice_range xs c.args.span.first c.args.span.end) c.deref.ensures.value) c.in-Ok.ensures.bound (c.in-Ok.ensures.position (by_label c.args.label) (always_returns_same _ _ _ (λ a r q k. search rules))))

pub returns-in-Err : goal.returns-in-Err
returns-in-Err c =
    let is = c.self.invariant.spans_are c.requires.0 c.args.span (ap (λ (v : PlacesValue). slice_get v.spans c.requires.0) c.self.view_is ∙ c.requires.1) in
    rw (← c.self.view_is)
    (label_missed _ c.args.span c.args.label c.in_span-states.result.now c.in-Err.field-0 is.0 c.self.invariant.rise is.1 (c.in_span-states.ensures ∙ ap (λ (xs : List PlaceName). slice_range xs c.args.span.first c.args.span.end) c.deref.ensures.value) (c.in-Err.ensures.position (by_label c.args.label) (always_returns_same _ _ _ (λ a r q k. search rules))))

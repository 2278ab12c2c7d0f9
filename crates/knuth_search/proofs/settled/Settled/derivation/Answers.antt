use Rattle.std.proofs.Common.{◌≡◌, ◌∙◌, ◌<◌, ap, subst, length, Some, slice_get, ◌≤◌}
use Rattle.std.specs.Option.{option_map}
use Rattle.std.proofs.lemmas.Option.{slice_get-map}
use Rattle.segment_grammar.proofs.Places.{read_at}
use Rattle.knuth_search.proofs.Choosing.{cheapest_at, none_listed, never_missing}
use Rattle.knuth_search.proofs.settled.Settled.derivation.Goals as goal

pub returns-in_default-clause-none : goal.returns-in_default-clause-none
returns-in_default-clause-none c machine starts is = none_listed machine starts c.args.self.now is c.args.root c.args.state c.in_default.ensures.none

pub returns-in_default-get-clause-none : goal.returns-in_default-get-clause-none
returns-in_default-get-clause-none c machine starts is reached =
    absurd (never_missing machine starts c.args.self.now is c.args.root c.args.state c.in-Some.place c.in-Some.ensures.some (subst (λ v. length v ≤ c.in-Some.place) c.deref.ensures.value c.in_default-get.ensures.lookup.3))

pub returns-clause-some : goal.returns-clause-some
returns-clause-some c machine starts is =
    let below : c.in-Some.place < length c.args.self.now.derivs.items = subst (λ v. c.in-Some.place < length v) c.deref.ensures.value c.in-Some-get.ensures.lookup.3.0 in
    let at : slice_get c.args.self.now.derivs.items c.in-Some.place ≡ Some c.in-Some-get.deriv.now = read_at c.deref.result.now c.args.self.now.derivs.items c.deref.ensures.value c.in-Some.place c.in-Some-get.deriv.now c.in-Some-get.ensures.lookup.1 below in
    cheapest_at machine starts c.args.self.now is c.args.root c.args.state c.in-Some.place c.in-Some.ensures.some c.in-Some-get.deriv.now.now (slice_get-map (λ d. d.now) c.args.self.now.derivs.items c.in-Some.place ∙ ap (option_map (λ d. d.now)) at)

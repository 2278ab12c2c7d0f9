use Rattle.std.proofs.Common.{sym, ◌∙◌, subst, Contains}
use Rattle.knuth_search.specs.Settled.{IsBest}
use Rattle.circuit_spec.specs.Steps.{IsOutcome}
use Rattle.finder_core.proofs.Outcome.{cheapest_walk, no_walk, starts_within}
use Rattle.finder_core.proofs.Told.{no_walk_found, told_unfound}
use Rattle.finder_core.proofs.searching.search_machine.Goals as goal

pub segments_of-requires : goal.segments_of-requires
segments_of-requires c = starts_within c.args.inventory.now c.args.request.now c.args.built.now c.requires.sound c.requires.built

pub tell-requires-clause-cheapest : goal.tell-requires-clause-cheapest
tell-requires-clause-cheapest c = cheapest_walk c.args.inventory.now c.args.request.now c.args.built.now c.requires.sound c.requires.built c.in-Some.deriv.now
    (subst (λ states. IsBest c.args.built.now.machine.steps c.args.built.now.starts states c.in-Some.deriv.now) c.targets-targets.ensures
    (c.in-Some.ensures.some c.args.built.now.machine c.args.built.now.starts c.in_ok-settled.ensures))

pub returns-in_default-clause-told : goal.returns-in_default-clause-told
returns-in_default-clause-told c = told_unfound c.args.inventory.now c.args.request.now c.unlisted.result.outcome c.unlisted.result.walk.hops c.unlisted.result.walk.flags c.requires.known
    (subst (λ o. IsOutcome c.args.inventory.now c.args.request.now o) (sym c.unlisted.ensures.outcome) (no_walk c.args.inventory.now c.args.request.now c.args.built.now c.requires.sound c.requires.built
    (λ target listed. c.in_default.ensures.none c.args.built.now.machine c.args.built.now.starts c.in_ok-settled.ensures target (subst (λ states. Contains states target) (sym c.targets-targets.ensures) listed))))
    (λ cost count e. no_walk_found cost count (sym c.unlisted.ensures.outcome ∙ e)) c.unlisted.ensures.hops c.unlisted.ensures.flags

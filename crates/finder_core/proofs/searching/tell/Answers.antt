use Rattle.std.proofs.Common.{sym, ◌∙◌, ap, subst}
use Rattle.deriv_arena.specs.Derivation.{kept_weight, unfolding_of}
use Rattle.circuit_spec.specs.Steps.{IsOutcome}
use Rattle.finder_core.specs.Outcomes.{outcome_of}
use Rattle.finder_core.proofs.Outcome.{found_listable}
use Rattle.finder_core.proofs.Told.{told_found, told_unfound}
use Rattle.finder_core.proofs.searching.tell.Goals as goal

pub list_walk-requires-clause-within : goal.list_walk-requires-clause-within
list_walk-requires-clause-within c = found_listable (kept_weight c.args.deriv.now) c.in-Found.cost c.in-Found.hops (sym c.in-Found.is ∙ c.outcome_of.ensures ∙ ap outcome_of c.weight.ensures.is)

pub returns-in_ok-walk-in-Found : goal.returns-in_ok-walk-in-Found
returns-in_ok-walk-in-Found c = told_found c.args.inventory.now c.args.request.now c.args.built.now (kept_weight c.args.deriv.now) (unfolding_of c.args.deriv.now) c.in-Found.cost c.in-Found.hops c.in_ok-walk-in-Found.walk.hops c.in_ok-walk-in-Found.walk.flags
    c.requires.built c.requires.cheapest (sym c.in-Found.is ∙ c.outcome_of.ensures ∙ ap outcome_of c.weight.ensures.is) c.in_ok-walk-in-Found.ensures.hops c.in_ok-walk-in-Found.ensures.flags

pub returns-in_default : goal.returns-in_default
returns-in_default c = told_unfound c.args.inventory.now c.args.request.now c.unlisted.result.outcome c.unlisted.result.walk.hops c.unlisted.result.walk.flags c.requires.known
    (subst (λ o. IsOutcome c.args.inventory.now c.args.request.now o) (sym (c.unlisted.ensures.outcome ∙ c.outcome_of.ensures ∙ ap outcome_of c.weight.ensures.is)) c.requires.cheapest.outcome)
    (λ cost count e. c.in_default.not-Found cost count (sym c.unlisted.ensures.outcome ∙ e)) c.unlisted.ensures.hops c.unlisted.ensures.flags

use Rattle.std.proofs.Common.{sym, subst, ◌≡◌, ◌<◌, Some, slice_get}
use Rattle.ml_base.specs.declared.numbers.Root.TheVariants.{Entry}
use Rattle.segment_grammar.specs.Pots.{pot}
use Rattle.segment_grammar.specs.Index.{IsPushFrom}
use Rattle.knuth_search.specs.Derived.{IsDerived}
use Rattle.knuth_search.specs.Following.{IsStepOf, OpenedBy}
use Rattle.knuth_search.specs.Tables.{pot_of}
use Rattle.knuth_search.proofs.Deriving.{derived_opened}
use Rattle.knuth_search.proofs.Offering.{offers_pushed, opened_is}
use Rattle.knuth_search.proofs.settle.open.Goals as goal

pub push-requires-clause-kept : goal.push-requires-clause-kept
push-requires-clause-kept c = subst (λ w. IsDerived c.args.queue.now.task (pot (Entry c.step-step.result.to) c.step-step.result.to w) c.in_ok-deriv.deriv.now) (sym c.zero.ensures)
    (derived_opened c.args.queue.now.task (pot_of c.args.prev) c.args.prev.deriv.now c.requires.kept c.args.number
    (subst (λ m. IsStepOf m.steps (IsPushFrom c.args.prev.state) c.args.number) (sym c.requires.machine) c.requires.push) c.step-step.result
    (subst (λ m. slice_get m.steps c.args.number.0 ≡ Some c.step-step.result) (sym c.requires.machine) c.step-step.ensures.found)
    (subst (λ m. c.step-step.result.to.0 < m.states) (sym c.requires.machine) c.step-step.ensures.within.to)
    c.in_ok-deriv.deriv.now c.in_ok-deriv.ensures.rests (c.in_ok-deriv.ensures.over c.args.queue.now.task.machine.steps))

pub returns-clause-offers : goal.returns-clause-offers
returns-clause-offers c = offers_pushed (OpenedBy c.args.setting.machine.now.steps (pot_of c.args.prev) c.args.number) c.args.queue.now c.push.new.self (pot (Entry c.step-step.result.to) c.step-step.result.to c.zero.result) c.in_ok-push.ensures.offers
    (opened_is c.args.setting.machine.now.steps (pot_of c.args.prev) c.args.number c.step-step.result c.step-step.ensures.found c.zero.result c.zero.ensures)

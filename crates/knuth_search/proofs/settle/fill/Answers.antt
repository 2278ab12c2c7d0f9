use Rattle.knuth_search.specs.Following.{Fills}
use Rattle.knuth_search.specs.Tables.{pot_of}
use Rattle.knuth_search.proofs.Offering.{offers_none, left_by}
use Rattle.std.proofs.Common.{rules, refl, ap, ◌∙◌}
use Rattle.adapt_machine.specs.declared.MachineKind.TheVariants.{Pop}
use Rattle.knuth_search.proofs.settle.fill.Goals as goal

pub returns-clause-offers : goal.returns-clause-offers
returns-clause-offers c = c.in_ok-fill_under.ensures.offers

pub returns-in_default-clause-offers : goal.returns-in_default-clause-offers
returns-in_default-clause-offers c = offers_none (λ p. Fills c.args.setting.machine.now.steps c.args.table.now.pots (pot_of c.args.inner) p) _ (λ p s. c.in_default.not-Entry s.gives.gives.gives.meets.enters.push.step.to s.gives.gives.gives.meets.enters.under)

pub returns-then-not-may_pop-clause-offers : goal.returns-then-not-may_pop-clause-offers
returns-then-not-may_pop-clause-offers c = offers_none (λ p. Fills c.args.setting.machine.now.steps c.args.table.now.pots (pot_of c.args.inner) p) _
    (λ p s. c.may_pop.ensures (search rules) (left_by c.args.table.now.task c.args.setting.machine.now.steps c.args.setting.machine.now (ap (λ t. t.machine) c.requires.table ∙ c.requires.machine) refl Pop c.args.inner.state s.gives.gives.number.0 s.gives.gives.gives.meets.pop.step s.gives.gives.gives.meets.pop.found s.gives.gives.gives.meets.pop.passes.0 s.gives.gives.gives.meets.pop.passes.1))

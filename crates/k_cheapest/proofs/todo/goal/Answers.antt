use Rattle.std.proofs.Common.{sym, subst}
use Rattle.ml_base.specs.declared.weight.Weight.{Weight}
use Rattle.segment_grammar.specs.Reached.{IsLeast}
use Rattle.k_cheapest.specs.Settings.{steps_in, starts_in}
use Rattle.k_cheapest.specs.Todos.{IsWeighed}
use Rattle.segment_grammar.specs.Pots.{pot}
use Rattle.k_cheapest.proofs.todo.goal.Goals as goal

pub returns-in_default-clause-none : goal.returns-in_default-clause-none
returns-in_default-clause-none c = λ reached.
    let listed : (w : Weight) × _ = c.requires.setting.potentials.all c.args.root c.args.state reached in
    c.in_default.ensures.none listed.0 listed.1

pub returns-clause-none : goal.returns-clause-none
returns-clause-none c =
    let least : IsLeast (steps_in c.args.setting) (starts_in c.args.setting) c.args.root c.args.state c.in-Some.least =
    c.requires.setting.potentials.least (pot c.args.root c.args.state c.in-Some.least) c.in-Some.ensures.some in
    (least.segment, least.is_segment)

pub returns-clause-weighed : goal.returns-clause-weighed
returns-clause-weighed c =
    let least : IsLeast (steps_in c.args.setting) (starts_in c.args.setting) c.args.root c.args.state c.in-Some.least =
    c.requires.setting.potentials.least (pot c.args.root c.args.state c.in-Some.least) c.in-Some.ensures.some in
    subst (λ t. IsWeighed (steps_in c.args.setting) (starts_in c.args.setting) t) (sym c.in_ok-goal.ensures) (c.requires.rest, (c.in-Some.least, least, c.plus-weight.ensures))

use Rattle.k_cheapest.specs.Choices.{ChoosesNest}
use Rattle.k_cheapest.specs.Items.{waiting_of, HasBefore}
use Rattle.k_cheapest.specs.Settings.{steps_in, starts_in}
use Rattle.k_cheapest.proofs.Adding.{adds_none, adds_same}
use Rattle.k_cheapest.proofs.Offering.{nest_none_inner, nest_there, nest_back}
use Rattle.k_cheapest.proofs.expand.offer_round.Goals as goal

pub returns-in_default-2 : goal.returns-in_default-2
returns-in_default-2 c =
    let none = rw c.in_default-2.is at c.in_ok-todo.ensures.none in
    adds_none (steps_in c.args.setting) (starts_in c.args.setting) (ChoosesNest (steps_in c.args.setting) (starts_in c.args.setting) c.args.choice c.args.nest.push.0 c.args.nest.pop.0)
    (waiting_of c.args.queue.now) (nest_none_inner (steps_in c.args.setting) (starts_in c.args.setting) c.args.choice c.args.nest c.requires.nest none)

pub returns : goal.returns
returns c =
    let first = rw c.in-Some.is at c.in_ok-under.ensures.form in
    let last = rw c.in-Some-2.is at c.in_ok-todo.ensures.form in
    adds_same (steps_in c.args.setting) (starts_in c.args.setting) (HasBefore (steps_in c.args.setting) (starts_in c.args.setting) c.in-Some-2.todo.now.form c.in_ok-given.given)
    (ChoosesNest (steps_in c.args.setting) (starts_in c.args.setting) c.args.choice c.args.nest.push.0 c.args.nest.pop.0) (waiting_of c.args.queue.now) (waiting_of c.put.new.queue)
    (nest_there (steps_in c.args.setting) (starts_in c.args.setting) c.args.choice c.args.nest c.requires.nest c.in_ok-given.given c.in_ok-given.ensures.steps
    c.in-Some.under c.in_ok-pushing.pushing c.in-Some-2.todo.now.form first c.in_ok-pushing.ensures.form last)
    (nest_back (steps_in c.args.setting) (starts_in c.args.setting) c.args.choice c.args.nest c.requires.nest c.in_ok-given.given c.in_ok-given.ensures.steps
    c.in-Some.under c.in_ok-pushing.pushing c.in-Some-2.todo.now.form first c.in_ok-pushing.ensures.form last)
    c.in_ok-put.ensures

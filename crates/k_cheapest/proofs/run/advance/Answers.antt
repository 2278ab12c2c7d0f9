use Rattle.std.proofs.Common.{subst}
use Rattle.k_cheapest.specs.declared.todo.TodoForm.{Step}
use Rattle.k_cheapest.specs.declared.choice.Choice.{Choice}
use Rattle.k_cheapest.specs.Choices.{ChoosesAny}
use Rattle.k_cheapest.specs.Items.{waiting_of, HasBefore, Has}
use Rattle.k_cheapest.specs.Settings.{steps_in, starts_in}
use Rattle.k_cheapest.specs.Todos.{Weighs}
use Rattle.k_cheapest.proofs.Adding.{adds_same}
use Rattle.k_cheapest.proofs.Beginning.{step_there, step_back, any_there, any_back}
use Rattle.k_cheapest.proofs.run.advance.Goals as goal

pub before-requires-clause-below : goal.before-requires-clause-below
before-requires-clause-below c =
    let weighs : Weighs (steps_in c.args.setting) (starts_in c.args.setting) c.args.item.todo.now.weight (Step c.in-Step.rest c.in-Step.step) =
    subst (λ f. Weighs (steps_in c.args.setting) (starts_in c.args.setting) c.args.item.todo.now.weight f) c.in-Step.is c.requires.item.todo in
    weighs.1

pub returns-in_ok-put-in-Step : goal.returns-in_ok-put-in-Step
returns-in_ok-put-in-Step c =
    adds_same (steps_in c.args.setting) (starts_in c.args.setting) (HasBefore (steps_in c.args.setting) (starts_in c.args.setting) c.in-Step.rest.now.form c.in_ok-given-in-Step.given)
    (Has (steps_in c.args.setting) (starts_in c.args.setting) c.args.item) (waiting_of c.args.queue.now) (waiting_of c.put.new.queue)
    (step_there (steps_in c.args.setting) (starts_in c.args.setting) c.args.item.todo.now.form c.in-Step.rest c.in-Step.step c.args.item.given c.in_ok-given-in-Step.given c.in-Step.is c.in_ok-given-in-Step.ensures.steps)
    (step_back (steps_in c.args.setting) (starts_in c.args.setting) c.args.item.todo.now.form c.in-Step.rest c.in-Step.step c.args.item.given c.in_ok-given-in-Step.given c.in-Step.is c.in_ok-given-in-Step.ensures.steps)
    c.in_ok-put-in-Step.ensures

pub returns-in_ok-expand-in-Goal : goal.returns-in_ok-expand-in-Goal
returns-in_ok-expand-in-Goal c =
    let choice : Choice = record { rest = c.in-Goal.rest; root = c.in-Goal.root; state = c.in-Goal.state; given = c.args.item.given } in
    adds_same (steps_in c.args.setting) (starts_in c.args.setting) (ChoosesAny (steps_in c.args.setting) (starts_in c.args.setting) choice)
    (Has (steps_in c.args.setting) (starts_in c.args.setting) c.args.item) (waiting_of c.args.queue.now) (waiting_of c.expand.new.queue)
    (any_there (steps_in c.args.setting) (starts_in c.args.setting) c.args.item.todo.now.form choice c.in-Goal.is)
    (any_back (steps_in c.args.setting) (starts_in c.args.setting) c.args.item.todo.now.form choice c.in-Goal.is)
    c.in_ok-expand-in-Goal.ensures

use Rattle.k_cheapest.specs.Choices.{ChoosesFlat}
use Rattle.k_cheapest.specs.Items.{waiting_of, HasBefore}
use Rattle.k_cheapest.specs.Settings.{steps_in, starts_in}
use Rattle.k_cheapest.proofs.Adding.{adds_same}
use Rattle.k_cheapest.proofs.Offering.{flat_there, flat_back}
use Rattle.k_cheapest.proofs.expand.offer_flat.Goals as goal

pub returns : goal.returns
returns c =
    let form = rw c.in-Some.is at c.in_ok-todo.ensures.form in
    adds_same (steps_in c.args.setting) (starts_in c.args.setting) (HasBefore (steps_in c.args.setting) (starts_in c.args.setting) c.in-Some.todo.now.form c.in_ok-given.given)
    (ChoosesFlat (steps_in c.args.setting) (starts_in c.args.setting) c.args.choice c.args.number.0) (waiting_of c.args.queue.now) (waiting_of c.put.new.queue)
    (flat_there (steps_in c.args.setting) (starts_in c.args.setting) c.args.choice c.args.number.0 c.args.taken c.requires.step c.in_ok-given.given c.in_ok-given.ensures.steps c.in-Some.todo.now.form form)
    (flat_back (steps_in c.args.setting) (starts_in c.args.setting) c.args.choice c.args.number.0 c.args.taken c.requires.step c.in_ok-given.given c.in_ok-given.ensures.steps c.in-Some.todo.now.form form)
    c.in_ok-put.ensures

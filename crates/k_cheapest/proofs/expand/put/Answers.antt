use Rattle.k_cheapest.specs.Items.{waiting_of, HasBefore}
use Rattle.k_cheapest.specs.Settings.{steps_in, starts_in}
use Rattle.k_cheapest.proofs.Adding.{adds_one}
use Rattle.k_cheapest.proofs.expand.put.Goals as goal

pub returns : goal.returns
returns c = adds_one (steps_in c.args.setting) (starts_in c.args.setting) (HasBefore (steps_in c.args.setting) (starts_in c.args.setting) c.args.todo.now.form c.args.given)
    (waiting_of c.args.queue.now) (waiting_of c.push.new.self) (record { weight = c.plus-weight.result; todo = c.args.todo; given = c.args.given }) c.in_ok-push.ensures
    (record { todo = c.requires.todo; given = c.requires.given; weight = c.plus-weight.ensures }) (λ ks h. h) (λ ks h. h)

use Rattle.k_cheapest.specs.Items.{waiting_of}
use Rattle.k_cheapest.specs.Settings.{steps_in, starts_in, targets_in}
use Rattle.k_cheapest.proofs.Further.{taken_apart, listed_further}
use Rattle.k_cheapest.proofs.Numbers.{true_is}
use Rattle.k_cheapest.proofs.run.step_further.Goals as goal

pub returns-then-is_done-clause-searches : goal.returns-then-is_done-clause-searches
returns-then-is_done-clause-searches c = listed_further (steps_in c.args.setting) (starts_in c.args.setting) (targets_in c.args.setting) c.args.setting.limit c.args.walks.now c.args.item
    (waiting_of c.args.queue.now) c.requires.next.searches (c.is_done.ensures.0 (true_is c.is_done.result c.if-is_done.true)) c.list.new.walks c.in_ok-list.ensures c.requires.next.least
    c.requires.next.light c.requires.limit

pub returns-clause-searches : goal.returns-clause-searches
returns-clause-searches c = taken_apart (steps_in c.args.setting) (starts_in c.args.setting) (targets_in c.args.setting) c.args.setting.limit c.args.walks.now c.args.item
    (waiting_of c.args.queue.now) c.requires.next.searches (waiting_of c.advance.new.queue) c.in_ok-advance.ensures

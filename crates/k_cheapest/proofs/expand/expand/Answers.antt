use Rattle.k_cheapest.specs.Choices.{ChoosesAny, ChoosesNone, ChoosesSome}
use Rattle.k_cheapest.specs.Items.{waiting_of}
use Rattle.k_cheapest.specs.Settings.{steps_in, starts_in}
use Rattle.k_cheapest.proofs.Adding.{adds_both}
use Rattle.k_cheapest.proofs.Parting.{any_parts, none_any, some_any}
use Rattle.k_cheapest.proofs.expand.expand.Goals as goal

pub returns : goal.returns
returns c = adds_both (steps_in c.args.setting) (starts_in c.args.setting) (ChoosesNone (steps_in c.args.setting) (starts_in c.args.setting) c.args.choice)
    (ChoosesSome (steps_in c.args.setting) (starts_in c.args.setting) c.args.choice) (ChoosesAny (steps_in c.args.setting) (starts_in c.args.setting) c.args.choice)
    (waiting_of c.args.queue.now) (waiting_of c.offer_empty.new.queue) (waiting_of c.offer_all.new.queue) c.in_ok-offer_empty.ensures c.in_ok-offer_all.ensures
    (none_any (steps_in c.args.setting) (starts_in c.args.setting) c.args.choice) (some_any (steps_in c.args.setting) (starts_in c.args.setting) c.args.choice)
    (any_parts (steps_in c.args.setting) (starts_in c.args.setting) c.args.choice)

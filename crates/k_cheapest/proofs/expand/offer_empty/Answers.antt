use Rattle.std.proofs.Common.{rules, IsTrue}
use Rattle.k_cheapest.specs.Choices.{BeginsAt, ChoosesNone}
use Rattle.k_cheapest.specs.Items.{waiting_of, HasBefore}
use Rattle.k_cheapest.specs.Settings.{steps_in, starts_in}
use Rattle.k_cheapest.proofs.Adding.{adds_same}
use Rattle.k_cheapest.proofs.Offering.{none_there, none_back}
use Rattle.k_cheapest.proofs.expand.offer_empty.Goals as goal

pub returns : goal.returns
returns c =
    let is : IsTrue c.begins_at.result = search rules in
    let begins : BeginsAt (starts_in c.args.setting) c.args.choice.root c.args.choice.state = c.begins_at.ensures.0 is in
    adds_same (steps_in c.args.setting) (starts_in c.args.setting) (HasBefore (steps_in c.args.setting) (starts_in c.args.setting) c.args.choice.rest.now.form c.args.choice.given)
    (ChoosesNone (steps_in c.args.setting) (starts_in c.args.setting) c.args.choice) (waiting_of c.args.queue.now) (waiting_of c.put.new.queue)
    (none_there (steps_in c.args.setting) (starts_in c.args.setting) c.args.choice c.requires.choice begins) (none_back (steps_in c.args.setting) (starts_in c.args.setting) c.args.choice)
    c.in_ok-put.ensures

use Rattle.std.proofs.Common.{◌≡◌, inl}
use Rattle.adapt_machine.specs.declared.MachineKind.TheVariants.{Flat}
use Rattle.k_cheapest.specs.Choices.{ChoosesFlat, ChoosesStep}
use Rattle.k_cheapest.specs.Items.{waiting_of}
use Rattle.k_cheapest.specs.Settings.{steps_in, starts_in}
use Rattle.k_cheapest.proofs.Adding.{adds_same}
use Rattle.k_cheapest.proofs.Offering.{ends_flat}
use Rattle.k_cheapest.proofs.expand.offer.Goals as goal

pub returns-in_ok-offer_flat-in-Flat : goal.returns-in_ok-offer_flat-in-Flat
returns-in_ok-offer_flat-in-Flat c =
    let kind : c.step-taken.result.kind ≡ Flat = c.in-Flat.is in
    adds_same (steps_in c.args.setting) (starts_in c.args.setting) (ChoosesFlat (steps_in c.args.setting) (starts_in c.args.setting) c.args.choice c.args.number.0)
    (ChoosesStep (steps_in c.args.setting) (starts_in c.args.setting) c.args.choice c.args.number.0) (waiting_of c.args.queue.now) (waiting_of c.offer_flat.new.queue)
    (λ ks h. inl h) (ends_flat (steps_in c.args.setting) (starts_in c.args.setting) c.args.choice c.args.number.0 c.step-taken.result c.step-taken.ensures.found kind)
    c.in_ok-offer_flat-in-Flat.ensures

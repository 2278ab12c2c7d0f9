use Rattle.k_cheapest.specs.Choices.{ChoosesStep}
use Rattle.k_cheapest.specs.Items.{waiting_of, Adds, Among}
use Rattle.k_cheapest.specs.Settings.{steps_in, starts_in}
use Rattle.k_cheapest.proofs.expand.offer_all.Given as goal

abbrev pub invariant-loop-number : goal.invariant-loop-number
invariant-loop-number l = Adds (steps_in l.setting) (starts_in l.setting) (Among (λ k ks. ChoosesStep (steps_in l.setting) (starts_in l.setting) l.choice k.0 ks) l.row l.number)
    (waiting_of l.fn.queue) (waiting_of l.queue)

use Rattle.k_cheapest.specs.Choices.{ChoosesNest}
use Rattle.k_cheapest.specs.Items.{waiting_of, Adds, Among}
use Rattle.k_cheapest.specs.Settings.{steps_in, starts_in}
use Rattle.k_cheapest.proofs.expand.offer_nests.Given as goal

abbrev pub invariant-loop-number : goal.invariant-loop-number
invariant-loop-number l = Adds (steps_in l.setting) (starts_in l.setting) (Among (λ k ks. ChoosesNest (steps_in l.setting) (starts_in l.setting) l.choice k.0 l.pop.0 ks) l.pushes l.number)
    (waiting_of l.fn.queue) (waiting_of l.queue)

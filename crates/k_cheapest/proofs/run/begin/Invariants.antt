use Rattle.ml_base.specs.declared.numbers.Root.TheVariants.{Request}
use Rattle.segment_grammar.specs.Reached.{IsSegmentUnder}
use Rattle.k_cheapest.specs.Items.{waiting_of, Adds, Among}
use Rattle.k_cheapest.specs.Settings.{steps_in, starts_in}
use Rattle.k_cheapest.proofs.run.begin.Given as goal

abbrev pub invariant-loop-number : goal.invariant-loop-number
invariant-loop-number l = Adds (steps_in l.setting) (starts_in l.setting) (Among (λ t ks. IsSegmentUnder (steps_in l.setting) (starts_in l.setting) Request ks t) l.targets l.number)
    (waiting_of l.fn.queue) (waiting_of l.queue)

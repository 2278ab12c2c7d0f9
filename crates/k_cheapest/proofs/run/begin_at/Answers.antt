use Rattle.ml_base.specs.declared.numbers.Root.TheVariants.{Request}
use Rattle.segment_grammar.specs.Reached.{IsSegmentUnder}
use Rattle.k_cheapest.specs.Items.{waiting_of, HasBefore}
use Rattle.k_cheapest.specs.Settings.{steps_in, starts_in}
use Rattle.k_cheapest.proofs.Adding.{adds_same}
use Rattle.k_cheapest.proofs.Beginning.{walk_there, walk_back}
use Rattle.k_cheapest.proofs.run.begin_at.Goals as goal

pub returns : goal.returns
returns c =
    let form = rw c.in-Some.is at c.in_ok-todo.ensures.form in
    adds_same (steps_in c.args.setting) (starts_in c.args.setting) (HasBefore (steps_in c.args.setting) (starts_in c.args.setting) c.in-Some.todo.now.form c.args.none)
    (λ ks. IsSegmentUnder (steps_in c.args.setting) (starts_in c.args.setting) Request ks c.args.target) (waiting_of c.args.queue.now) (waiting_of c.put.new.queue)
    (walk_there (steps_in c.args.setting) (starts_in c.args.setting) c.in-Some.todo.now.form c.in_ok-nothing.nothing c.args.none c.args.target form c.in_ok-nothing.ensures.form c.requires.none)
    (walk_back (steps_in c.args.setting) (starts_in c.args.setting) c.in-Some.todo.now.form c.in_ok-nothing.nothing c.args.none c.args.target form c.in_ok-nothing.ensures.form c.requires.none)
    c.in_ok-put.ensures

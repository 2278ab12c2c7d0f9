use Rattle.std.proofs.Common.{arith}
use Rattle.std.proofs.Math.ListN.{get_or}
use Rattle.std.proofs.lemmas.Option.{slice_get-get_or}
use Rattle.ml_base.specs.declared.numbers.Root.TheVariants.{Request}
use Rattle.segment_grammar.specs.Reached.{IsSegmentUnder}
use Rattle.k_cheapest.specs.Items.{waiting_of}
use Rattle.k_cheapest.specs.KLists.{IsWalk}
use Rattle.k_cheapest.specs.Settings.{steps_in, starts_in, targets_in}
use Rattle.k_cheapest.proofs.Adding.{adds_begun, adds_more, adds_among}
use Rattle.k_cheapest.proofs.run.begin.Goals as goal

pub loop-number-init : goal.loop-number-init
loop-number-init c = adds_begun (steps_in c.args.setting) (starts_in c.args.setting) (λ t ks. IsSegmentUnder (steps_in c.args.setting) (starts_in c.args.setting) Request ks t)
    (targets_in c.args.setting) (waiting_of c.args.queue.now)

pub loop-number-preserved : goal.loop-number-preserved
loop-number-preserved c = adds_more (steps_in c.args.setting) (starts_in c.args.setting) (λ t ks. IsSegmentUnder (steps_in c.args.setting) (starts_in c.args.setting) Request ks t)
    (targets_in c.args.setting) c.loop-number.number (get_or (targets_in c.args.setting) c.loop-number.number (record { 0 = 0 }))
    (slice_get-get_or (targets_in c.args.setting) c.loop-number.number (record { 0 = 0 }) c.loop-number-test.true) (waiting_of c.args.queue.now) (waiting_of c.loop-number.queue) (waiting_of c.begin_at.new.queue)
    c.loop-number.invariant c.in_ok-begin_at.ensures

pub returns : goal.returns
returns c = adds_among (steps_in c.args.setting) (starts_in c.args.setting) (λ t ks. IsSegmentUnder (steps_in c.args.setting) (starts_in c.args.setting) Request ks t)
    (targets_in c.args.setting) (IsWalk (steps_in c.args.setting) (starts_in c.args.setting) (targets_in c.args.setting)) c.loop-number.number (omega arith)
    (λ t ks listed h. (h.0, t, h.1, listed, h.2)) (λ ks w. (w.1, w.3, (w.0, w.2, w.4))) (waiting_of c.args.queue.now) (waiting_of c.loop-number.queue) c.loop-number.invariant

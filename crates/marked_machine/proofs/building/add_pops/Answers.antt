use Rattle.std.proofs.Common.{arith}
use Rattle.marked_machine.specs.Product.{pop_at}
use Rattle.marked_machine.proofs.GoingOn.{goes_none, goes_round, goes_done}
use Rattle.marked_machine.proofs.building.add_pops.Goals as goal

pub loop-seen-init : goal.loop-seen-init
loop-seen-init c = goes_none c.args.steps.now

pub loop-seen-preserved : goal.loop-seen-preserved
loop-seen-preserved c = goes_round (pop_at c.args.marks.now c.args.site.number c.args.site.step c.args.site.mark) c.loop-seen.seen c.args.steps.now c.loop-seen.steps c.add_pop.new.steps
    c.loop-seen.invariant c.in_ok-add_pop.ensures

pub returns : goal.returns
returns c = goes_done (pop_at c.args.marks.now c.args.site.number c.args.site.step c.args.site.mark) c.loop-seen.seen c.args.marks.now.frame_count c.args.steps.now c.loop-seen.steps
    (omega arith) c.loop-seen.invariant

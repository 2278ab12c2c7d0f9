use Rattle.std.proofs.Common.{◌++◌}
use Rattle.deriv_arena.specs.Derivation.{unfolding_of}
use Rattle.route_unfold.proofs.Doing.{done_more, work_less}
use Rattle.route_unfold.proofs.tasks.unfold_into.Goals as goal

pub loop-task-smaller : goal.loop-task-smaller
loop-task-smaller c = work_less c.loop-task.out c.work.new.out c.loop-task.tasks.items c.pop.new.self.items c.work.new.tasks.items c.in-Some.task
    c.in-Some.ensures.items c.in_ok-work.ensures

pub loop-task-preserved : goal.loop-task-preserved
loop-task-preserved c = done_more (unfolding_of c.args.deriv.now ++ c.args.out.now) c.loop-task.out c.work.new.out c.loop-task.tasks.items c.pop.new.self.items c.work.new.tasks.items c.in-Some.task
    c.in-Some.ensures.items c.in_ok-work.ensures c.loop-task.invariant

use Rattle.std.proofs.Common.{sym, subst}
use Rattle.route_unfold.specs.Tasks.{Does}
use Rattle.route_unfold.proofs.Doing.{does_step}
use Rattle.route_unfold.proofs.tasks.work.Goals as goal

pub returns-in_ok-put_first-in-Step : goal.returns-in_ok-put_first-in-Step
returns-in_ok-put_first-in-Step c = subst (λ t. Does t c.args.tasks.now.items c.args.out.now c.args.tasks.now.items c.put_first.new.self) (sym c.in-Step.is)
    (does_step c.args.tasks.now.items c.args.out.now c.put_first.new.self c.in-Step.step c.in_ok-put_first-in-Step.ensures)

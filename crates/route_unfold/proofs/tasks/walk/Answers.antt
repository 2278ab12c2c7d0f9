use Rattle.std.proofs.Common.{sym, ◌∙◌}
use Rattle.route_unfold.proofs.Doing.{does_flat, does_nest}
use Rattle.route_unfold.proofs.tasks.walk.Goals as goal

pub returns-in_ok-put_first-in-Flat : goal.returns-in_ok-put_first-in-Flat
returns-in_ok-put_first-in-Flat c = does_flat c.args.tasks.now.items c.add.new.tasks.items c.args.out.now c.put_first.new.self c.args.deriv c.in-Flat.prev c.in-Flat.step
    (sym c.form.ensures ∙ c.in-Flat.is) c.in_ok-add-in-Flat.ensures c.in_ok-put_first-in-Flat.ensures

pub returns-in_ok-put_first-in-Nest : goal.returns-in_ok-put_first-in-Nest
returns-in_ok-put_first-in-Nest c = does_nest c.args.tasks.now.items c.add-in-Nest.new.tasks.items c.add-in-Nest-2.new.tasks.items c.add-in-Nest-3.new.tasks.items
    c.args.out.now c.put_first-in-Nest.new.self c.args.deriv c.in-Nest.prev c.in-Nest.inner c.in-Nest.push c.in-Nest.pop
    (sym c.form.ensures ∙ c.in-Nest.is) c.in_ok-add-in-Nest.ensures c.in_ok-add-in-Nest-2.ensures c.in_ok-add-in-Nest-3.ensures c.in_ok-put_first-in-Nest.ensures

use Rattle.std.proofs.Common.{codes, []}
use Rattle.topo_gen.specs.Tunnels.{named}
use Rattle.topo_gen.proofs.Growing.{one_more}
use Rattle.topo_gen.proofs.levels.link_ids.Goals as goal

pub loop-before-preserved : goal.loop-before-preserved
loop-before-preserved c =
    one_more (named (codes "l")) [] c.loop-before.before c.loop-before.ids c.push.new.self c.in_ok-named.field-0 c.loop-before.invariant c.in_ok-push.ensures.ok c.in_ok-named.ensures

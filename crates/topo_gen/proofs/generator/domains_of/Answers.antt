use Rattle.std.proofs.Common.{[], ◌∷◌}
use Rattle.topo_gen.specs.Tunnels.{ground, tunnel}
use Rattle.topo_gen.proofs.Growing.{one_more}
use Rattle.topo_gen.proofs.generator.domains_of.Goals as goal

pub loop-level-preserved : goal.loop-level-preserved
loop-level-preserved c =
    one_more (tunnel c.args.levels) (ground c.args.levels ∷ []) c.loop-level.level c.loop-level.domains c.push-in-loop-level.new.self c.in_ok-tunnel.field-0
    c.loop-level.invariant c.in_ok-push-2.ensures.ok c.in_ok-tunnel.ensures

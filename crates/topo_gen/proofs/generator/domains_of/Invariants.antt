use Rattle.std.proofs.Common.{◌≡◌, ◌∷◌, map}
use Rattle.std.specs.List.{range_with_len}
use Rattle.topo_gen.specs.Tunnels.{ground, tunnel}
use Rattle.topo_gen.proofs.generator.domains_of.Given as goal

abbrev pub invariant-loop-level : goal.invariant-loop-level
invariant-loop-level l = l.domains ≡ ground l.levels ∷ map (tunnel l.levels) (range_with_len 1 l.level)

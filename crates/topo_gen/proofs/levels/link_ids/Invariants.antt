use Rattle.std.proofs.Common.{◌≡◌, codes, map}
use Rattle.std.specs.List.{range_with_len}
use Rattle.topo_gen.specs.Tunnels.{named}
use Rattle.topo_gen.proofs.levels.link_ids.Given as goal

abbrev pub invariant-loop-before : goal.invariant-loop-before
invariant-loop-before l = l.ids ≡ map (named (codes "l")) (range_with_len 1 l.before)

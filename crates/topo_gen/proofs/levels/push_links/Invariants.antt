use Rattle.std.proofs.Common.{◌≡◌, ◌++◌, codes, map}
use Rattle.std.specs.List.{range_with_len}
use Rattle.topo_gen.specs.Tunnels.{named, link}
use Rattle.topo_gen.proofs.levels.push_links.Given as goal

abbrev pub invariant-loop-before : goal.invariant-loop-before
invariant-loop-before l = l.elements.items ≡ l.initial.elements.items ++ map (λ i. link (named (codes "l") i) i) (range_with_len 1 l.before)

use Rattle.std.proofs.Common.{◌≡◌, ◌+◌, length}
use Rattle.topo_gen.specs.Tunnels.{entries_from}
use Rattle.topo_gen.proofs.elements.numbered.Given as goal

abbrev pub invariant-loop-element : goal.invariant-loop-element
invariant-loop-element l = record {
  so_far : l.entries ≡ entries_from 1 l.yielded;
  left : length l.yielded + length l.element-iterator.rest.items ≡ length l.initial.element-iterator.rest.items;
}

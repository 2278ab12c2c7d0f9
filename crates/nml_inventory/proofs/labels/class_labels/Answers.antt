use Rattle.std.proofs.Common.{◌≡◌, ◌<◌, refl, length, map, arith}
use Rattle.std.proofs.lemmas.List.{length-map}
use Rattle.std.proofs.lemmas.Option.{slice_get_read}
use Rattle.circuit_spec.specs.Network.{port_of, ports}
use Rattle.nml_inventory.specs.ClassSets.{HasNarrowed}
use Rattle.nml_inventory.proofs.Merging.{all_first, first_more, view_at}
use Rattle.nml_inventory.proofs.labels.class_labels.Goals as goal

pub loop-port-preserved : goal.loop-port-preserved
loop-port-preserved c =
    let T = c.args.numbered.now in
    let n = c.loop-port.port in
    let lists = c.in_ok-lists.lists.items in
    let parts = c.index.result.now in
    let within : n < length lists = omega (arith, c.in_ok-lists.ensures.long, length-map lists (λ v. v.items), c.ports-port-end.ensures) in
    let new : HasNarrowed c.entry.result.now.labels parts.items c.in_ok-fewer.fewer = rw c.as_slice.ensures.value at c.in_ok-fewer.ensures in
    rw c.in-Ok.ensures.items
    (first_more T n c.loop-port.labels.items (map (λ v. v.items) lists) parts.items (port_of c.entry.ensures.domain c.entry.result.now) c.in_ok-fewer.fewer c.loop-port.invariant
    (view_at (λ v. v.items) lists n parts (slice_get_read lists (length lists) n parts refl within c.index.ensures)) c.entry.ensures.port_is new)

pub returns : goal.returns
returns c =
    let T = c.args.numbered.now in
    let e : c.loop-port.port ≡ length (ports T) = omega (arith, c.ports-port-end.ensures) in
    record {
      classes = c.classes-classes.result.now;
      numbered = c.classes-classes.ensures;
      narrowed = all_first T c.classes-classes.result.now c.loop-port.port c.loop-port.labels.items (map (λ v. v.items) c.in_ok-lists.lists.items) e c.loop-port.invariant c.in_ok-lists.ensures;
    }

use Rattle.std.proofs.Common.{◌≡◌, ◌<◌, Some, refl, subst, length, arith}
use Rattle.std.specs.Prelude.{slice_get}
use Rattle.std.proofs.lemmas.Option.{slice_get_read, slice_get_within}
use Rattle.circuit_spec.specs.Faults.{ClassesFit}
use Rattle.circuit_spec.specs.Network.{IsClass, Port, Topology, ports}
use Rattle.nml_inventory.specs.Relations.{AreClassLabels}
use Rattle.nml_inventory.proofs.Merging.{merged_labels}
use Rattle.nml_inventory.proofs.inventory.Inventory.labels_of.Goals as goal

pub returns : goal.returns
returns c =
    let T = c.self.inside.numbered in
    let labels = c.self.inside.labels.items in
    let m = c.self.invariant.labels_are in
    let n = c.class-class.ensures in
    let within : c.class-class.result.0 < length labels = omega (arith, slice_get_within (ports T) c.class-class.result.0 n.first n.is_first, m.narrowed.long) in
    subst (λ (U : Topology). ClassesFit U → (p class : Port) → slice_get (ports U) c.args.port.0 ≡ Some p → IsClass U p.id class → AreClassLabels U class c.index.result.now) c.self.view_is
    (merged_labels T labels c.args.port.0 c.class-class.result.0 c.index.result.now c.self.invariant.once m n
    (slice_get_read labels (length labels) c.class-class.result.0 c.index.result.now refl within c.index.ensures))

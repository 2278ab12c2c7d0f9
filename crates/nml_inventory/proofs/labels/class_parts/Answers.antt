use Rattle.std.proofs.Common.{◌≡◌, length, map, subst, arith}
use Rattle.circuit_spec.specs.Network.{ports}
use Rattle.nml_inventory.specs.ClassSets.{AreParts}
use Rattle.nml_inventory.proofs.labels.class_parts.Goals as goal

pub returns : goal.returns
returns c =
    let T = c.args.numbered.now in
    let e : c.loop-port.port ≡ length (ports T) = omega (arith, c.ports-port-end.ensures) in
    subst (λ n. AreParts T c.args.classes.now n (map (λ v. v.items) c.loop-port.lists.items)) e c.loop-port.invariant

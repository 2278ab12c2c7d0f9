use Rattle.std.proofs.Common.{List, subst, arith}
use Rattle.std.proofs.lemmas.List.{take_all}
use Rattle.circuit_spec.specs.Network.{IsClass, Port, ports}
use Rattle.circuit_spec.proofs.Merged.{ids_once}
use Rattle.nml_inventory.specs.Relations.{IsCount}
use Rattle.nml_inventory.proofs.Counted.{one_class, other_class}
use Rattle.nml_inventory.proofs.labels.count_classes.Goals as goal
use Rattle.nml_inventory.proofs.labels.count_classes.Goals.{then-class-port, else-class-port}

pub loop-port-preserved : goal.loop-port-preserved
loop-port-preserved c =
    let T = c.args.numbered.now in
    let n = c.loop-port.port in
    elim c.if-class-port.branch [
      | then-class-port w ↦ rw w.count-is (one_class T n c.class.result.0 c.loop-port.count (ids_once T c.is_merged.ensures) c.class.ensures w.if-class-port.true c.loop-port.invariant.0, omega arith)
      | else-class-port w ↦ rw w.count-is (other_class T n c.class.result.0 c.loop-port.count (ids_once T c.is_merged.ensures) c.class.ensures w.if-class-port.false c.loop-port.invariant.0, omega arith)
    ]

pub returns : goal.returns
returns c =
    let T = c.args.numbered.now in
    subst (λ (ps : List Port). IsCount (λ (p : Port). IsClass T p.id p) ps c.loop-port.count) (take_all c.loop-port.port (ports T) (omega (arith, c.ports-port-end.ensures))) c.loop-port.invariant.0

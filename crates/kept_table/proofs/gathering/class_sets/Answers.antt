use Rattle.std.proofs.Common.{◌≡◌, ℕ, length, subst, arith}
use Rattle.circuit_spec.specs.Network.{ports}
use Rattle.kept_table.specs.Gathering.{IsGathered}
use Rattle.kept_table.proofs.Growing.{class_step}
use Rattle.kept_table.proofs.gathering.class_sets.Goals as goal

pub loop-port-preserved : goal.loop-port-preserved
loop-port-preserved c = λ r. class_step c.args.inventory.now r c.loop-port.port c.loop-port.gathered c.in_ok-gathered.gathered (c.loop-port.invariant r) c.in_ok-gathered.ensures

pub returns : goal.returns
returns c =
    let T = c.args.inventory.now in
    let whole : c.loop-port.port ≡ length (ports T) = omega (arith, c.ports-port-end.ensures) in
    λ r. subst (λ (n : ℕ). IsGathered T r n 0 0 c.loop-port.gathered) whole (c.loop-port.invariant r)

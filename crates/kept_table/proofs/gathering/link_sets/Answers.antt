use Rattle.std.proofs.Common.{◌≡◌, ℕ, length, subst, arith}
use Rattle.circuit_spec.specs.Network.{elements_of, ports}
use Rattle.kept_table.specs.Gathering.{IsGathered}
use Rattle.kept_table.proofs.Growing.{link_step}
use Rattle.kept_table.proofs.gathering.link_sets.Goals as goal

pub loop-number-preserved : goal.loop-number-preserved
loop-number-preserved c =
    let T = c.args.inventory.now in
    λ r. link_step T r (length (ports T)) c.loop-number.number c.loop-number.gathered c.in_ok-gathered.gathered (c.loop-number.invariant r) c.in_ok-gathered.ensures

pub returns : goal.returns
returns c =
    let T = c.args.inventory.now in
    let whole : c.loop-number.number ≡ length (elements_of T) = omega (arith, c.elements-number-end.ensures) in
    λ r. subst (λ (n : ℕ). IsGathered T r (length (ports T)) n 0 c.loop-number.gathered) whole (c.loop-number.invariant r)

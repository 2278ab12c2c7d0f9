use Rattle.std.proofs.Common.{◌≡◌, arith, length, subst}
use Rattle.k_cheapest.specs.Ways.{AreWays}
use Rattle.k_cheapest.proofs.ways.Ways.new.Goals as goal

pub returns : goal.returns
returns c =
    let whole : c.loop-number.number ≡ length c.args.machine.now.steps = omega arith in
    subst (λ n. AreWays c.args.machine.now n c.loop-number.ways) whole c.loop-number.invariant

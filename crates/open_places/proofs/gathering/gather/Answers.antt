use Rattle.std.proofs.Common.{ℕ, subst, arith}
use Rattle.open_places.specs.Gathering.{AreGathered}
use Rattle.open_places.proofs.Named.{gathered_more}
use Rattle.open_places.proofs.gathering.gather.Goals as goal

pub loop-number-preserved : goal.loop-number-preserved
loop-number-preserved c =
    gathered_more c.args.inventory.now c.args.kept.now c.loop-number.number c.loop-number.places.items c.add_port.new.places.items c.loop-number.invariant c.in_ok-add_port.ensures

pub returns : goal.returns
returns c =
    subst (λ (n : ℕ). AreGathered c.args.inventory.now c.args.kept.now n c.loop-number.places.items) (omega arith) c.loop-number.invariant

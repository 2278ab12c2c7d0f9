use Rattle.std.proofs.Common.{refl}
use Rattle.machine_build.proofs.Growing.{adds_one, one_way}
use Rattle.machine_build.proofs.adding.add_move.Goals as goal

pub returns : goal.returns
returns c = adds_one _ _ c.args.moves.now c.push.new.self _ c.in_ok-push.ensures.ok (refl, refl, refl) refl (λ w r. one_way w c.args.crossing.element c.args.crossing.near c.args.far r.0 r.1 r.2)

use Rattle.packet_replay.specs.Conditions.{unit_after}
use Rattle.packet_replay.proofs.Stepping.{fitting_steps, steps_fit}
use Rattle.packet_replay.proofs.laws.hops_that_fit.Goals as goal

pub returns : goal.returns
returns c T u h = (λ s. let f = steps_fit T u h s.0 s.1 in (f.0, f.1), λ f. (unit_after h f.0 u, fitting_steps T u h f.0 f.1))

use Rattle.circuit_spec.specs.contracts.hops.FrameEq.TheImpl.Laws.{laws-law}
use Rattle.machine_build.proofs.Items.{distinct_once}
use Rattle.machine_build.proofs.frames.count_frames.Goals as goal

pub returns-clause-apart : goal.returns-clause-apart
returns-clause-apart c = distinct_once _ laws-law.refl c.args.frames.now.keys c.len.ensures.unique

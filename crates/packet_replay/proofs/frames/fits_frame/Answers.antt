use Rattle.std.proofs.Common.{sym, ◌∙◌}
use Rattle.packet_replay.proofs.Framed.{top_taken}
use Rattle.packet_replay.proofs.Named.{element_is}
use Rattle.packet_replay.proofs.frames.fits_frame.Goals as goal

pub returns-in-Some : goal.returns-in-Some
returns-in-Some c way are =
    let e = element_is c.args.inventory.now c.args.numbers.element way.placed c.element_at.result.now are.element_at c.element_at.ensures in
    let same = c.is_frame_of.ensures c.args.hop.now.to way.to are.to in
    let taken = top_taken c.args.hop.now way.to way.placed.element c.in-Deadaptation.service c.args.unit.now.stack c.in-Some.top.now (sym c.in-Deadaptation.is ∙ e) c.in-Some.ensures in
    (λ t. taken.0 (same.0 t), λ f. same.1 (taken.1 f))

use Rattle.std.proofs.Common.{sym, ◌∙◌}
use Rattle.packet_replay.proofs.Framed.{frame_put}
use Rattle.packet_replay.proofs.Named.{element_is}
use Rattle.packet_replay.proofs.frames.restack.Goals as goal

pub returns-in_ok-push-in-Adaptation-clause-ok : goal.returns-in_ok-push-in-Adaptation-clause-ok
returns-in_ok-push-in-Adaptation-clause-ok c way are =
    let e = element_is c.args.inventory.now c.args.numbers.element way.placed c.element_at.result.now are.element_at c.element_at.ensures in
    frame_put c.args.hop.now way.from way.placed.element c.in-Adaptation.service c.args.stack.now c.push.new.self c.in_ok-frame-in-Adaptation.frame
    (sym c.in-Adaptation.is ∙ e) (c.in_ok-frame-in-Adaptation.ensures c.args.hop.now.from way.from are.from) c.in_ok-push-in-Adaptation.ensures.ok

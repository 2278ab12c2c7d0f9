use Rattle.std.proofs.Common.{sym, ◌∙◌}
use Rattle.packet_replay.proofs.Opened.{opened}
use Rattle.packet_replay.proofs.labels.is_open.Goals as goal

pub returns : goal.returns
returns c id class end =
    let o = opened c.args.inventory.now class c.class_labels.result.now c.args.label (c.class_labels.ensures id class end) in
    (λ t. o.0 (sym c.admits.ensures ∙ t), λ p. c.admits.ensures ∙ o.1 p)

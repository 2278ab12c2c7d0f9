use Rattle.std.proofs.Common.{◌∙◌, ◌++◌, ap, map, arith}
use Rattle.nml_inventory.proofs.Spans.{copied_more, number_of}
use Rattle.nml_inventory.proofs.relation.copied.Goals as goal

pub loop-number-preserved : goal.loop-number-preserved
loop-number-preserved c =
    rw (c.in_ok-push.ensures.items, c.in_ok-push-2.ensures.items)
    (copied_more c.args.groups.now c.loop-number.number c.loop-number.begins.items c.loop-number.ends.items c.loop-number.ports.items c.add_ports.new.ports.items c.len.result c.len-in-loop-number.result
    (omega arith) c.loop-number.invariant (c.len.ensures ∙ c.loop-number.ports.ok.0) (c.len-in-loop-number.ensures ∙ c.add_ports.new.ports.ok.0)
    (c.in_ok-add_ports.ensures ∙ ap (λ g. map number_of c.loop-number.ports.items ++ g) c.of.ensures))

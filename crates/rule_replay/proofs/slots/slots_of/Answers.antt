use Rattle.rule_replay.proofs.Counting.{none_noted}
use Rattle.rule_replay.proofs.slots.slots_of.Goals as goal

pub loop-place-init : goal.loop-place-init
loop-place-init c = none_noted c.in_ok-slots.slots.items _ c.in_ok-slots.ensures

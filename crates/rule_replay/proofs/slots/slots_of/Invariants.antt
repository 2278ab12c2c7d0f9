use Rattle.std.proofs.Common.{length, take}
use Rattle.rule_replay.specs.Slots.{AreNoted}
use Rattle.rule_replay.proofs.slots.slots_of.Given as goal

abbrev pub invariant-loop-place : goal.invariant-loop-place
invariant-loop-place l = AreNoted (take l.place l.rules) l.slots.items (length l.rules)

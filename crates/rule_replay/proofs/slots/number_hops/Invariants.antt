use Rattle.std.proofs.Common.{length}
use Rattle.rule_replay.specs.Slots.{AreFirstByNumber, AreNoted}
use Rattle.rule_replay.proofs.slots.number_hops.Given as goal

abbrev pub invariant-loop-number : goal.invariant-loop-number
invariant-loop-number l = record {
  noted : AreNoted l.rules l.slots.items (length l.rules);
  first : AreFirstByNumber l.rules l.hops l.number;
}

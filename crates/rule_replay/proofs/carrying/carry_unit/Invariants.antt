use Rattle.std.proofs.Common.{◌≤◌, length, take}
use Rattle.rule_replay.specs.Carrying.{HasPassed}
use Rattle.rule_replay.proofs.carrying.carry_unit.Given as goal

abbrev pub invariant-loop-number : goal.invariant-loop-number
invariant-loop-number l = record {
  passed : HasPassed l.inventory l.start (take l.number l.hops) l.passed.replay.unit l.passed.places;
  frames : length l.passed.replay.unit.stack ≤ l.number;
  room : length l.hops ≤ l.passed.replay.room;
}

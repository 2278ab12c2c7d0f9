use Rattle.std.proofs.Common.{◌≡◌, ◌≤◌, ◌+◌, take, length}
use Rattle.hop_check.specs.Carrying.{Leads}
use Rattle.hop_check.proofs.carrying.carry.Given as goal

abbrev pub invariant-loop-hop : goal.invariant-loop-hop
invariant-loop-hop l = record {
  led : Leads l.fn.inventory l.fn.answer (take l.hop-index l.fn.answer.hops) l.replay.unit;
  low : length l.replay.unit.stack ≤ l.hop-index;
  room : l.replay.room ≡ length l.fn.answer.hops;
  line : l.line ≡ 4 + l.hop-index;
}

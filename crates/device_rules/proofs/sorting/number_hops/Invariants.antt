use Rattle.std.proofs.Common.{◌≡◌, drop, ◌+◌, ◌++◌}
use Rattle.std.specs.Prelude.{All}
use Rattle.device_rules.specs.Rules.{IsRule}
use Rattle.device_rules.specs.Numbering.{numbered}
use Rattle.device_rules.proofs.sorting.number_hops.Given as goal

abbrev pub invariant-loop-at : goal.invariant-loop-at
invariant-loop-at l = record {
  numbers : l.rules.items ++ numbered (l.at + 1) (drop l.at l.hops) ≡ numbered 1 l.hops;
  fit : All IsRule l.rules.items;
}

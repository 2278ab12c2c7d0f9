use Rattle.std.proofs.Common.{◌≡◌}
use Rattle.device_rules.proofs.sorting.listed.Given as goal

abbrev pub invariant-loop-rule : goal.invariant-loop-rule
invariant-loop-rule l = l.list ≡ l.yielded

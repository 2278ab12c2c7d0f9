use Rattle.std.proofs.Common.{◌≤◌, vec_len}
use Rattle.root_order.proofs.roots.ranked_roots.Given as goal

abbrev pub invariant-loop-number : goal.invariant-loop-number
invariant-loop-number l = vec_len l.roots ≤ l.number

use Rattle.std.proofs.Common.{drop, ◌+◌}
use Rattle.std.specs.Prelude.{◌↔◌}
use Rattle.answer_spec.specs.WellFormed.{AreHops}
use Rattle.answer_spec.proofs.order.each_hop_flagged.Given as goal

abbrev pub invariant-loop-at : goal.invariant-loop-at
invariant-loop-at l = AreHops 1 l.fn.hops l.fn.flags ↔ AreHops (l.at + 1) (drop l.at l.fn.hops) (drop l.at l.fn.flags)

use Rattle.std.proofs.Common.{drop}
use Rattle.std.specs.Prelude.{◌↔◌, None, option_copied}
use Rattle.answer_spec.specs.WellFormed.{ArePots}
use Rattle.answer_spec.specs.Ordered.{ArePotsInOrder}
use Rattle.answer_spec.proofs.order.pots_in_order.Given as goal

abbrev pub invariant-loop-pot : goal.invariant-loop-pot
invariant-loop-pot l = record {
  exact : ArePots None l.fn.pots ↔ ArePots (option_copied l.previous) (drop l.pot-index l.pot-items);
  ordered : ArePotsInOrder None l.fn.pots → ArePotsInOrder (option_copied l.previous) (drop l.pot-index l.pot-items);
}

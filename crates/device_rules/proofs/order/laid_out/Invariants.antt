use Rattle.std.proofs.Common.{drop, []}
use Rattle.std.specs.Prelude.{◌↔◌, option_copied}
use Rattle.device_rules.specs.Rules.{Start, AreLaidOut, AreInOrder, after}
use Rattle.device_rules.proofs.order.laid_out.Given as goal

abbrev pub invariant-loop-rule : goal.invariant-loop-rule
invariant-loop-rule l = record {
  -- the rules that stand before may end here
  closed : AreLaidOut (after (option_copied l.previous)) [];
  exact : AreLaidOut Start l.fn.rules ↔ AreLaidOut (after (option_copied l.previous)) (drop l.rule-index l.rule-items);
  ordered : AreInOrder Start l.fn.rules → AreInOrder (after (option_copied l.previous)) (drop l.rule-index l.rule-items);
}

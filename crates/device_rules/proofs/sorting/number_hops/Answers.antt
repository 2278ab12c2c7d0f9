use Rattle.std.proofs.Common.{subst, sym, List, [], arith}
use Rattle.std.specs.Prelude.{All}
use Rattle.std.proofs.lemmas.List.Elements.{All-append, All-cons}
use Rattle.device_rules.specs.declared.rules.Rule.{Rule}
use Rattle.device_rules.specs.Rules.{IsRule}
use Rattle.device_rules.proofs.Ranked.{numbered_step}
use Rattle.device_rules.proofs.sorting.number_hops.Goals as goal

pub loop-at-preserved : goal.loop-at-preserved
loop-at-preserved c = record {
  numbers = numbered_step c.loop-at.rules.items _ _ c.args.hops.now c.loop-at.at c.index-hops-at.result c.index-hops-at.is c.loop-at-test.true c.in_ok-push_rule.ensures.pushed c.loop-at.invariant.numbers;
  fit = subst (λ (rs : List Rule). All IsRule rs) (sym c.in_ok-push_rule.ensures.pushed) (All-append IsRule _ _ c.loop-at.invariant.fit (All-cons IsRule _ [] c.in_ok-push_rule.ensures.fits (λ k d lt. absurd (omega arith))));
}

use Rattle.std.proofs.Common.{rules}
use Rattle.std.specs.Prelude.{option_copied}
use Rattle.line_text.specs.Lines.{text_of}
use Rattle.device_rules.specs.Rules.{after}
use Rattle.domain_config.specs.Writing.{lines_at}
use Rattle.line_text.proofs.Writes.{on_err, one_more, cut_short, same_left}
use Rattle.domain_config.proofs.RuleWrites.{rule_left}
use Rattle.domain_config.proofs.writing.write_rules.Goals as goal

pub loop-rule-preserved : goal.loop-rule-preserved
loop-rule-preserved g c =
    let at = after (option_copied c.loop-rule.previous) in
    let rule = c.rule-item.result in
    record {
      faults = search rules;
      underway = one_more _ (g.K.Sink.written c.loop-rule.out) _ _ (text_of (lines_at at rule)) _
          (same_left _ _ _ _ _ (rule_left at c.as_slice-rule-items.result.now c.loop-rule.rule-index rule c.rule-item.is c.loop-rule-test.true) c.loop-rule.invariant.underway)
          c.in_ok-write_rule.ensures.ok;
    }

pub returns-in_err-write_rule-clause-front : goal.returns-in_err-write_rule-clause-front
returns-in_err-write_rule-clause-front g c =
    let at = after (option_copied c.loop-rule.previous) in
    let rule = c.rule-item.result in
    on_err c.from_residual.result
    (cut_short _ (g.K.Sink.written c.loop-rule.out) _ _ (text_of (lines_at at rule)) _
    (same_left _ _ _ _ _ (rule_left at c.as_slice-rule-items.result.now c.loop-rule.rule-index rule c.rule-item.is c.loop-rule-test.true) c.loop-rule.invariant.underway)
    c.in_err-write_rule.ensures.front)

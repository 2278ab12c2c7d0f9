use Rattle.std.proofs.Common.{◌≡◌, ◌≤◌, ◌+◌, ◌*◌, drop, length}
use Rattle.std.specs.Prelude.{option_copied}
use Rattle.device_rules.specs.Rules.{Start, after}
use Rattle.domain_config.specs.Rules.{rule_lines}
use Rattle.hop_check.proofs.ruling.count_rule_lines.Given as goal

abbrev pub invariant-loop-rule : goal.invariant-loop-rule
invariant-loop-rule l = record {
  counted : l.lines + length (rule_lines (after (option_copied l.previous)) (drop l.rule-index l.rule-items)) ≡ length (rule_lines Start l.fn.rules);
  few : l.lines ≤ 2 * l.rule-index;
}

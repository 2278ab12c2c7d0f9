use Rattle.std.proofs.Common.{◌≤◌, drop}
use Rattle.std.specs.Prelude.{option_copied}
use Rattle.line_text.specs.Lines.{text_of}
use Rattle.device_rules.specs.Rules.{Start, after}
use Rattle.domain_config.specs.Rules.{rule_lines}
use Rattle.line_text.proofs.Writes.{IsUnderway}
use Rattle.domain_config.proofs.writing.write_rules.Given as goal

abbrev pub invariant-loop-rule : goal.invariant-loop-rule
invariant-loop-rule g l = record {
  faults : g.K.Sink.faults l.fn.out ≤ g.K.Sink.faults l.out;
  underway : IsUnderway (g.K.Sink.written l.fn.out) (g.K.Sink.written l.out) (text_of (rule_lines Start l.fn.rules)) (text_of (rule_lines (after (option_copied l.previous)) (drop l.rule-index l.rule-items)));
}

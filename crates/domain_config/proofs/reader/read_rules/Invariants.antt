use Rattle.std.proofs.Common.{◌≡◌, ◌+◌, ◌≤◌, length}
use Rattle.line_text.specs.Lines.{pieces, read_from, adding}
use Rattle.domain_config.specs.Rules.{rule_step, rules_end}
use Rattle.domain_config.specs.Layout.{rules_in}
use Rattle.domain_config.specs.Saying.{at_of, behind_rules}
use Rattle.domain_config.proofs.reader.read_rules.Given as goal

abbrev pub invariant-loop-line : goal.invariant-loop-line
invariant-loop-line l = record {
  read : rules_in l.fn.bytes ≡ adding (behind_rules l.reader.rules) (read_from rule_step rules_end (at_of l.reader.before) l.number (pieces l.rest));
  counted : l.number + length l.rest ≤ length l.fn.bytes + 1;
}

abbrev pub decreases-loop-line : goal.decreases-loop-line
decreases-loop-line l = length l.rest

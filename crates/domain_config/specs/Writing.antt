-- The lines that are due at one rule.
use Rattle.std.specs.Prelude.{List, [], ◌∷◌, ◌++◌}
use Rattle.device_rules.specs.declared.rules.Rule.{Rule}
use Rattle.line_text.specs.Lines.{Line}
use Rattle.device_rules.specs.Rules.{At}
use Rattle.domain_config.specs.Rules.{domain_lines, rule_line}

-- the line of a rule, behind that of its domain where this is its first one
abbrev pub lines_at : At → Rule → List Line
lines_at at r = domain_lines at r.hop.domain ++ rule_line r ∷ []

-- Rules that are written piece by piece.
use Rattle.std.proofs.Common.{◌≡◌, ◌∙◌, sym, ap, ℕ, ◌+◌, ◌≤◌, ◌<◌, List, [], ◌∷◌, ◌++◌, length, drop, get_or, append_assoc}
use Rattle.std.proofs.lemmas.List.{drop_all}
use Rattle.device_rules.specs.declared.rules.Rule.{Rule}
use Rattle.device_rules.specs.Rules.{At, In}
use Rattle.device_rules.proofs.Items.{at_item}
use Rattle.line_text.specs.Lines.{text_of}
use Rattle.line_text.proofs.Writes.{lines_join, one_line}
use Rattle.domain_config.specs.Rules.{domain_lines, rule_line, rule_lines}
use Rattle.domain_config.specs.Writing.{lines_at}

-- the lines at one rule, and those behind
pub rule_text : (at : At) (r : Rule) (rs : List Rule) → text_of (rule_lines at (r ∷ rs)) ≡ text_of (lines_at at r) ++ text_of (rule_lines (In r.hop.domain r.number) rs)
rule_text at r rs =
    ap text_of (sym (append_assoc (domain_lines at r.hop.domain) (rule_line r ∷ []) (rule_lines (In r.hop.domain r.number) rs)))
    ∙ lines_join (lines_at at r) (rule_lines (In r.hop.domain r.number) rs)

-- what is left at an item of the list
pub rule_left : (at : At) (rs : List Rule) (i : ℕ) (r : Rule) → r ≡ get_or rs i r → i < length rs → text_of (rule_lines at (drop i rs)) ≡ text_of (lines_at at r) ++ text_of (rule_lines (In r.hop.domain r.number) (drop (i + 1) rs))
rule_left at rs i r is lt = ap (λ (qs : List Rule). text_of (rule_lines at qs)) (at_item rs i r is lt) ∙ rule_text at r (drop (i + 1) rs)

pub no_rules_left : (at : At) (rs : List Rule) (i : ℕ) → length rs ≤ i → text_of (rule_lines at (drop i rs)) ≡ []
no_rules_left at rs i le = ap (λ (qs : List Rule). text_of (rule_lines at qs)) (drop_all i rs le)

-- the line of a rule behind that of its domain, if there is one
pub lines_at_text : (at : At) (r : Rule) → text_of (lines_at at r) ≡ text_of (domain_lines at r.hop.domain) ++ (rule_line r ++ 10 ∷ [])
lines_at_text at r = lines_join (domain_lines at r.hop.domain) (rule_line r ∷ []) ∙ ap (λ (t : List ℕ). text_of (domain_lines at r.hop.domain) ++ t) (one_line (rule_line r))

use Rattle.std.proofs.Common.{◌≡◌, ◌≤◌, ◌+◌, length, drop, refl, sym, ◌∙◌, ap, subst, arith}
use Rattle.std.specs.Prelude.{option_copied, slice_get}
use Rattle.std.proofs.lemmas.Bool.{both_ways}
use Rattle.std.proofs.lemmas.Option.{slice_get_read}
use Rattle.device_rules.specs.Rules.{AreLaidOut, after}
use Rattle.domain_config.specs.Rules.{rule_lines}
use Rattle.verdict.specs.First.{IsFirstDifference}
use Rattle.hop_check.proofs.OtherLine.{agree_more, begins_rest, differ_on, missing, more_of, rule_next}
use Rattle.hop_check.proofs.ruling.first_other_line.Goals as goal

pub returns-then-not-is_rule-clause-first : goal.returns-then-not-is_rule-clause-first
returns-then-not-is_rule-clause-first c =
    let rules = c.args.rules.now in
    let due = c.args.due.now in
    let i = c.loop-at.at in
    let r = c.index-list-at.result in
    let at = after (option_copied c.loop-at.previous) in
    let so_far = c.loop-at.invariant in
    let here = slice_get_read c.as_slice-list.result.now (length c.as_slice-list.result.now) i r refl c.loop-at-test.true c.index-list-at.is in
    let mine = rule_next rules i r (ap (λ rs. slice_get rs i) (sym c.as_slice-list.ensures) ∙ here) in
    let alike =
    c.lines_alike.ensures.alike (drop (i + 1) rules) (drop i due) (subst (AreLaidOut at) mine so_far.rules_rest) so_far.due_rest (begins_rest due i ∙ sym c.get-due_here.ensures)
    (λ e. both_ways c.is_rule.result c.if-not-is_rule.true (c.is_rule.ensures.1 e)) in
    differ_on rules due i at c.loop-at.lines c.lines_alike.result (c.loop-at.lines + c.lines_alike.result) so_far (subst (λ rs. IsFirstDifference (rule_lines at rs) (rule_lines at (drop i due)) c.lines_alike.result) (sym mine) alike) refl

pub loop-at-preserved : goal.loop-at-preserved
loop-at-preserved c =
    let rules = c.args.rules.now in
    let due = c.args.due.now in
    let i = c.loop-at.at in
    let r = c.index-list-at.result in
    let at = after (option_copied c.loop-at.previous) in
    let here = slice_get_read c.as_slice-list.result.now (length c.as_slice-list.result.now) i r refl c.loop-at-test.true c.index-list-at.is in
    let theirs = sym c.get-due_here.ensures ∙ c.is_rule.ensures.0 c.if-not-is_rule.false in
    agree_more rules due i at c.loop-at.lines (c.loop-at.lines + c.domain_lines.result + 1) r c.loop-at.invariant (ap (λ rs. slice_get rs i) (sym c.as_slice-list.ensures) ∙ here) theirs (ap (λ n. c.loop-at.lines + n + 1) c.domain_lines.ensures.counted)

pub returns-clause-first : goal.returns-clause-first
returns-clause-first c =
    let done : length c.args.rules.now ≤ c.loop-at.at = omega (arith, c.loop-at-test.false, ap length c.as_slice-list.ensures) in
    let within : c.loop-at.at ≤ length c.args.rules.now = omega (arith, c.loop-at.auto.at-end, ap length c.as_slice-list.ensures) in
    let apart : length c.args.due.now ≡ length c.args.rules.now → ⊥ = λ e. c.if-len.false (c.len.ensures ∙ e ∙ sym c.len-2.ensures) in
    missing c.args.rules.now c.args.due.now c.loop-at.at (after (option_copied c.loop-at.previous)) c.loop-at.lines c.loop-at.invariant done (more_of (length c.args.rules.now) (length c.args.due.now) c.loop-at.at within c.loop-at.invariant.reached done apart)

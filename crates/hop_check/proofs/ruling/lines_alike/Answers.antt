use Rattle.std.proofs.Common.{sym, ◌∙◌, ap}
use Rattle.std.specs.Prelude.{option_copied}
use Rattle.std.proofs.lemmas.Bool.{both_ways}
use Rattle.std.specs.Str.{bytes_eq}
use Rattle.std.proofs.lemmas.Slice.Eq.{bytes_eq-Decides}
use Rattle.device_rules.specs.Rules.{after}
use Rattle.hop_check.proofs.OtherLine.{alike_in_domain, alike_in_none, alike_at_end}
use Rattle.hop_check.proofs.ruling.lines_alike.Goals as goal

pub returns-in-Some-clause-alike : goal.returns-in-Some-clause-alike
returns-in-Some-clause-alike c xs ys rules due here apart =
    let some = ap option_copied c.in-Some.is in
    let same = (bytes_eq-Decides c.in-Some.due.now.hop.domain c.args.rule.now.hop.domain).0 (sym c.eq.ensures ∙ c.if-eq.true) in
    alike_in_domain (after (option_copied c.args.previous)) c.args.rule.now xs ys c.in-Some.due.now c.domain_lines.result rules due (here ∙ some) (λ e. apart (some ∙ e)) same c.domain_lines.ensures.counted

pub returns-in_default-clause-alike : goal.returns-in_default-clause-alike
returns-in_default-clause-alike c xs ys rules due here apart =
    let some = ap option_copied c.in-Some.is in
    let d = c.in-Some.due.now.hop.domain in
    let e = c.args.rule.now.hop.domain in
    alike_in_none (after (option_copied c.args.previous)) c.args.rule.now xs ys c.in-Some.due.now rules due (here ∙ some) (λ same. both_ways (bytes_eq d e) (sym c.eq.ensures ∙ c.if-eq.false) ((bytes_eq-Decides d e).1 same))

pub returns-in_default-2-clause-alike : goal.returns-in_default-2-clause-alike
returns-in_default-2-clause-alike c xs ys rules due here apart =
    alike_at_end (after (option_copied c.args.previous)) c.args.rule.now xs ys (here ∙ ap option_copied c.in_default.is)

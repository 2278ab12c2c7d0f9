use Rattle.std.proofs.Common.{sym, subst, List, ℕ}
use Rattle.std.specs.Prelude.{option_copied}
use Rattle.std.specs.Io.KnownBytes.{Appends}
use Rattle.io_edges.specs.Stores.{AppendsFront}
use Rattle.io_edges.proofs.Written.{Appends-join}
use Rattle.line_text.specs.Lines.{text_of}
use Rattle.domain_config.specs.Rules.{domain_lines}
use Rattle.device_rules.specs.Rules.{after}
use Rattle.line_text.proofs.Writes.{on_err, front_behind}
use Rattle.domain_config.proofs.RuleWrites.{lines_at_text}
use Rattle.domain_config.proofs.writing.write_rule.Goals as goal

pub returns-clause-ok : goal.returns-clause-ok
returns-clause-ok g c =
    let at = after (option_copied c.args.previous) in
    let rule = c.args.rule.now in
    subst (λ (t : List ℕ). Appends (g.K.Sink.written c.args.out.now) (g.K.Sink.written c.write_line.new.out) t) (sym (lines_at_text at rule))
    (Appends-join _ _ _ (text_of (domain_lines at rule.hop.domain)) _ c.in_ok-write_domain.ensures.ok
    (subst (λ (t : List ℕ). Appends (g.K.Sink.written c.write_domain.new.out) (g.K.Sink.written c.write_line.new.out) t) c.make_rule_line.ensures c.in_ok-write_line.ensures.ok))

pub returns-in_err-write_line-clause-front : goal.returns-in_err-write_line-clause-front
returns-in_err-write_line-clause-front g c =
    let at = after (option_copied c.args.previous) in
    let rule = c.args.rule.now in
    on_err c.from_residual-in_err-write_line.result
    (subst (λ (t : List ℕ). AppendsFront (g.K.Sink.written c.args.out.now) (g.K.Sink.written c.write_line.new.out) t) (sym (lines_at_text at rule))
    (front_behind _ _ _ (text_of (domain_lines at rule.hop.domain)) _ c.in_ok-write_domain.ensures.ok
    (subst (λ (t : List ℕ). AppendsFront (g.K.Sink.written c.write_domain.new.out) (g.K.Sink.written c.write_line.new.out) t) c.make_rule_line.ensures c.in_err-write_line.ensures.front)))

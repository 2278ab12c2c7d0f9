use Rattle.std.proofs.Common.{◌≡◌, ◌∙◌, sym, ap, subst, rules, arith, ℕ, ◌+◌, List, [], ◌∷◌, Result, Err, add-one}
use Rattle.std.proofs.lemmas.Result.{err_from_is_err_and}
use Rattle.device_rules.specs.declared.rules.Rule.{Rule}
use Rattle.domain_config.specs.declared.fault.RuleFault.{RuleFault}
use Rattle.domain_config.specs.declared.fault.RuleFault.TheVariants as fault
use Rattle.domain_config.specs.declared.reader.RuleReader.{RuleReader}
use Rattle.line_text.specs.Lines.{pieces, read_from, adding, closing}
use Rattle.domain_config.specs.Rules.{rule_step, rules_end}
use Rattle.domain_config.specs.Saying.{at_of, behind_rules, Takes, TakesAt, AnswersAs}
use Rattle.line_text.proofs.Onward.{taken_on, misfit_on, closed_on}
use Rattle.domain_config.proofs.RuleTexts.{answered_laid_out, answered_first}
use Rattle.domain_config.proofs.reader.read_rules.Goals as goal

refused_so : (n : ℕ) (old new : RuleReader) (f : RuleFault) (rest line later : List ℕ) (whole : Result (List Rule) ℕ)
    → whole ≡ adding (behind_rules old.rules) (read_from rule_step rules_end (at_of old.before) n (pieces rest)) → pieces rest ≡ line ∷ pieces later
    → TakesAt {X = Unit {0}} n old new (Err f) (rule_step (at_of old.before) line) → AnswersAs (Err f) whole
refused_so n old new (fault.Line m) rest line later whole before cut h =
    misfit_on rule_step rules_end (at_of old.before) n rest line later (behind_rules old.rules) whole before cut h.1 ∙ ap (λ (k : ℕ). Err k) (sym h.0)
refused_so n old new fault.NoMemory rest line later whole before cut h = tt

goes_on_so : (n : ℕ) (old new : RuleReader) (rest line later : List ℕ) (whole : Result (List Rule) ℕ)
    → whole ≡ adding (behind_rules old.rules) (read_from rule_step rules_end (at_of old.before) n (pieces rest)) → pieces rest ≡ line ∷ pieces later
    → Takes old new (rule_step (at_of old.before) line) → whole ≡ adding (behind_rules new.rules) (read_from rule_step rules_end (at_of new.before) (n + 1) (pieces later))
goes_on_so n old new rest line later whole before cut t =
    taken_on rule_step rules_end (at_of old.before) (at_of new.before) n rest line later (behind_rules old.rules) (behind_rules new.rules) t.add whole before cut t.leads t.added
    ∙ ap (λ (k : ℕ). adding (behind_rules new.rules) (read_from rule_step rules_end (at_of new.before) k (pieces later))) (sym (add-one n))

pub loop-line-preserved : goal.loop-line-preserved
loop-line-preserved c = record {
  read = goes_on_so c.loop-line.number c.loop-line.reader c.take_line.new.reader c.loop-line.rest.now c.in-Some.line.now c.in-Some.later.now _ c.loop-line.invariant.read c.in-Some.ensures.cut c.in_ok-take_line.ensures;
  counted = omega (arith, c.in-Some.ensures.shorter);
}

pub returns-in_err-take_line-clause-read : goal.returns-in_err-take_line-clause-read
returns-in_err-take_line-clause-read c =
    let p = err_from_is_err_and c.from_residual.result c.from_residual.ensures.1 in
    rw (p.1, p.2) (refused_so c.loop-line.number c.loop-line.reader c.take_line.new.reader c.in_err-take_line.field-0.0 c.loop-line.rest.now c.in-Some.line.now c.in-Some.later.now _ c.loop-line.invariant.read c.in-Some.ensures.cut c.in_err-take_line.ensures)

pub returns-in_err-take_line-clause-line : goal.returns-in_err-take_line-clause-line
returns-in_err-take_line-clause-line c =
    let p = err_from_is_err_and c.from_residual.result c.from_residual.ensures.1 in
    answered_first c.args.bytes.now c.from_residual.result
    (rw (p.1, p.2) (refused_so c.loop-line.number c.loop-line.reader c.take_line.new.reader c.in_err-take_line.field-0.0 c.loop-line.rest.now c.in-Some.line.now c.in-Some.later.now _ c.loop-line.invariant.read c.in-Some.ensures.cut c.in_err-take_line.ensures))

closed_so : (n : ℕ) (reader : RuleReader) (rest : List ℕ) (whole : Result (List Rule) ℕ) (r : Result (List Rule) RuleFault)
    → whole ≡ adding (behind_rules reader.rules) (read_from rule_step rules_end (at_of reader.before) n (pieces rest)) → pieces rest ≡ rest ∷ []
    → AnswersAs r (adding (behind_rules reader.rules) (closing n rest (rules_end (at_of reader.before)))) → AnswersAs r whole
closed_so n reader rest whole r before cut h =
    subst (λ (w : Result (List Rule) ℕ). AnswersAs r w) (sym (closed_on rule_step rules_end (at_of reader.before) n rest (behind_rules reader.rules) whole before cut)) h

pub returns-clause-laid_out : goal.returns-clause-laid_out
returns-clause-laid_out c = answered_laid_out c.args.bytes.now c.finish.result (closed_so c.loop-line.number c.loop-line.reader c.loop-line.rest.now _ c.finish.result c.loop-line.invariant.read (search rules) c.finish.ensures)

pub returns-clause-line : goal.returns-clause-line
returns-clause-line c = answered_first c.args.bytes.now c.finish.result (closed_so c.loop-line.number c.loop-line.reader c.loop-line.rest.now _ c.finish.result c.loop-line.invariant.read (search rules) c.finish.ensures)

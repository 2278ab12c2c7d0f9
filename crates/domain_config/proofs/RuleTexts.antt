-- Texts of rules: what is read, and what is refused.
use Rattle.std.proofs.Common.{◌≡◌, ◌∙◌, ap, ℕ, List, Result, Ok, Err}
use Rattle.std.specs.Prelude.{IfOk, IfErr}
use Rattle.device_rules.specs.declared.rules.Rule.{Rule}
use Rattle.domain_config.specs.declared.fault.RuleFault.{RuleFault}
use Rattle.domain_config.specs.declared.fault.RuleFault.TheVariants as fault
use Rattle.line_text.specs.Lines.{text_of, IsFirstMisfit}
use Rattle.device_rules.specs.Rules.{Start, AreLaidOut}
use Rattle.domain_config.specs.Rules.{IsLayout, rule_lines, rule_step, rules_end}
use Rattle.domain_config.specs.Layout.{rules_in}
use Rattle.domain_config.specs.Saying.{AnswersAs, NamesFirstMisfit}
use Rattle.line_text.proofs.LineLaws.{read_text, refused_first}
use Rattle.domain_config.proofs.RuleLaws.{rules_found, rules_grammar}

pub laid_out_when_read : (bytes : List ℕ) (rs : List Rule) → rules_in bytes ≡ Ok rs → AreLaidOut Start rs × (bytes ≡ text_of (rule_lines Start rs))
laid_out_when_read bytes rs e =
    let t = read_text rule_step rules_end Start bytes rs e in
    let f = rules_found t.0 Start rs tt t.2 in
    (f.laid_out, t.1 ∙ ap text_of f.spelled)

pub first_when_refused : (bytes : List ℕ) (n : ℕ) → rules_in bytes ≡ Err n → IsFirstMisfit IsLayout bytes n
first_when_refused bytes n e = refused_first rule_step rules_end Start IsLayout rules_grammar bytes n e

pub answered_laid_out : (bytes : List ℕ) (r : Result (List Rule) RuleFault) → AnswersAs r (rules_in bytes) → IfOk r (λ rules. AreLaidOut Start rules × (bytes ≡ text_of (rule_lines Start rules)))
answered_laid_out bytes (Ok rs) e = laid_out_when_read bytes rs e
answered_laid_out bytes (Err f) e = tt

pub answered_first : (bytes : List ℕ) (r : Result (List Rule) RuleFault) → AnswersAs r (rules_in bytes) → IfErr r (NamesFirstMisfit bytes)
answered_first bytes (Ok rs) e = tt
answered_first bytes (Err (fault.Line n)) e = first_when_refused bytes n e
answered_first bytes (Err fault.NoMemory) e = tt

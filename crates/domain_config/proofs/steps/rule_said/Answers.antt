use Rattle.std.proofs.Common.{◌≡◌, ◌∙◌, ap, sym, ℕ, ◌<◌, Option, Some, true, Bool, arith, rules, ◌∷◌}
use Rattle.std.specs.Prelude.{nat_lt}
use Rattle.std.proofs.lemmas.Bool.{and_from}
use Rattle.device_rules.specs.declared.rules.Rule.{Rule}
use Rattle.line_text.specs.Fields.{Word, kept_if}
use Rattle.device_rules.specs.Rules.{At, In}
use Rattle.domain_config.specs.Rules.{RuleWords, tags_agree, rule_of, to_rule}
use Rattle.domain_config.specs.Saying.{at_by, rule_added}
use Rattle.domain_config.specs.Views.{words_view}
use Rattle.place_names.proofs.Ids.{is_above}
use Rattle.domain_config.proofs.steps.rule_said.Goals as goal

said_by : (domain : Word) (last : ℕ) (t : RuleWords) (r : Rule) → tags_agree t ≡ true → last < t.head → rule_of domain t ≡ r → to_rule (In domain last) (Some t) ≡ Some (rule_added (In domain last) r)
said_by domain last t r agree above is =
    ap (λ (b : Bool). kept_if b (In domain t.head, λ rs. rule_of domain t ∷ rs)) (and_from (tags_agree t) (nat_lt last t.head) agree (is_above last t.head above))
    ∙ ap (λ (q : Rule). Some (rule_added (In domain last) q)) is

said_at : (at : At) (o : Option RuleWords) (domain : Word) (last : ℕ) (t : RuleWords) (r : Rule) → at ≡ In domain last → o ≡ Some t → tags_agree t ≡ true → last < t.head → Some (rule_of domain t) ≡ Some r → to_rule at o ≡ Some (rule_added at r)
said_at at o domain last t r place read agree above is =
    let same : rule_of domain t ≡ r = cc in
    ap (λ (a : At). to_rule a o) place ∙ ap (to_rule (In domain last)) read ∙ said_by domain last t r agree above same ∙ ap (λ (a : At). Some (rule_added a r)) (sym place)

pub returns : goal.returns
returns c =
    let place : c.args.before.now.domain ≡ Some c.in-Some.domain = search rules in
    let agree : tags_agree (words_view c.in_ok-words.words) ≡ true = search rules in
    said_at _ _ c.in-Some.domain c.args.before.now.last _ _ (ap (λ (d : Option Word). at_by d c.args.before.now.last) place) c.in_ok-words.ensures agree (omega arith) c.in_ok-rule.ensures

use Rattle.std.proofs.Common.{◌≡◌, ◌∙◌, sym, ap, ℕ, List, [], ◌∷◌, ◌++◌, append_assoc, Option, Some, None}
use Rattle.device_rules.specs.declared.rules.Rule.{Rule}
use Rattle.domain_config.specs.declared.steps.Said.{Said}
use Rattle.line_text.specs.Fields.{Word}
use Rattle.device_rules.specs.Rules.{At}
use Rattle.domain_config.specs.Saying.{at_by, rule_added, step_of, Takes}
use Rattle.domain_config.proofs.reader.RuleReader.take.Goals as goal

behind : (rules new later : List Rule) (r : Rule) → new ≡ rules ++ r ∷ [] → rules ++ r ∷ later ≡ new ++ later
behind rules new later r pushed = sym (ap (λ (rs : List Rule). rs ++ later) pushed ∙ append_assoc rules (r ∷ []) later)

taken : (domain : Option Word) (last : ℕ) (rules new : List Rule) (r : Rule) (step : Option (At × (List Rule → List Rule))) → step ≡ Some (rule_added (at_by domain last) r) → new ≡ rules ++ r ∷ []
    → Takes (record { before = record { domain = domain; last = last }; rules = rules }) (record { before = record { domain = domain; last = r.number }; rules = new }) step
taken None last rules new r step e pushed = record { add = λ rs. r ∷ rs; leads = e; added = λ later. behind rules new later r pushed }
taken (Some domain) last rules new r step e pushed = record { add = λ rs. r ∷ rs; leads = e; added = λ later. behind rules new later r pushed }

pub returns-in-Ok : goal.returns-in-Ok
returns-in-Ok c = taken c.args.self.now.before.domain c.args.self.now.before.last c.args.self.now.rules c.push.new.self c.in-Rule.rule _ (c.in_ok-domain.ensures ∙ ap (λ (said : Said). Some (step_of (at_by c.args.self.now.before.domain c.args.self.now.before.last) said)) c.in-Rule.is) c.in-Ok.ensures.ok

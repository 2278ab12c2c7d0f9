use Rattle.std.proofs.Common.{◌≡◌, ◌∙◌, ap, [], ◌∷◌, ◌++◌}
use Rattle.std.specs.Prelude.{codes, decimal}
use Rattle.line_text.specs.Fields.{spaced, tag}
use Rattle.domain_config.specs.Rules.{verb, verb_of}
use Rattle.line_text.proofs.Writes.{then_word, then_words, then_end}
use Rattle.domain_config.proofs.making.make_rule_line.Goals as goal

pub returns : goal.returns
returns c =
    let rule = c.args.rule.now in
    let verb_word = verb (verb_of rule.hop.kind rule.hop.from_label rule.hop.to_label) in
    let key = codes "rule" in
    let e1 : c.push.new.self ≡ spaced (key ∷ []) = c.push.ensures ∙ ap (λ l. l ++ key) c.new-line.ensures in
    let e2 = then_word c.push.new.self c.push_number.new.line key [] (decimal rule.number) e1 c.push_number.ensures.spelled in
    let e3 = then_word c.push_number.new.line c.push_verb.new.line key (decimal rule.number ∷ []) verb_word e2 (c.push_verb.ensures.spelled ∙ ap (λ v. c.push_number.new.line ++ 32 ∷ verb v) c.hop_verb.ensures) in
    let e4 = then_word c.push_verb.new.line c.push_id.new.line key (decimal rule.number ∷ verb_word ∷ []) rule.hop.element e3 c.push_id.ensures.spelled in
    let e5 = then_words c.push_id.new.line c.push_place.new.line key (decimal rule.number ∷ verb_word ∷ rule.hop.element ∷ []) rule.hop.from (tag rule.hop.from_label) e4 c.push_place.ensures.spelled in
    let e6 = then_words c.push_place.new.line c.push_place-2.new.line key (decimal rule.number ∷ verb_word ∷ rule.hop.element ∷ rule.hop.from ∷ tag rule.hop.from_label ∷ []) rule.hop.to (tag rule.hop.to_label) e5 c.push_place-2.ensures.spelled in
    then_end c.push_place-2.new.line c.push-2.new.self (key ∷ decimal rule.number ∷ verb_word ∷ rule.hop.element ∷ rule.hop.from ∷ tag rule.hop.from_label ∷ rule.hop.to ∷ tag rule.hop.to_label ∷ []) e6 c.push-2.ensures

use Rattle.std.proofs.Common.{◌∙◌, ◌+◌, sym, arith}
use Rattle.std.proofs.lemmas.Bool.Decides.{nat_tests}
use Rattle.line_text.specs.Fields.{number_of}
use Rattle.line_text.proofs.Numbers.{none_from, number_is, parsed, no_number, the_number, apart_words, same_words}
use Rattle.line_text.proofs.reading.number.Goals as goal

pub returns-in_default-clause-value : goal.returns-in_default-clause-value
returns-in_default-clause-value c = sym (none_from (number_of (c.args.most + 1) c.args.word.now) (λ v e. c.in_default.ensures.cases.0 (number_is (c.args.most + 1) c.args.word.now v (omega (arith, c.ranges.most)) e).2))

pub returns-in_default-parse-clause-value : goal.returns-in_default-parse-clause-value
returns-in_default-parse-clause-value c = sym (none_from (number_of (c.args.most + 1) c.args.word.now) (λ v e. c.in_default-parse.not-Ok v (parsed (c.args.most + 1) c.args.word.now c.in-Ok.text.now c.parse.result v (omega (arith, c.ranges.most)) c.in-Ok.ensures.cases.0 c.parse.ensures.value.0 e)))

pub returns-then-ne-clause-value : goal.returns-then-ne-clause-value
returns-then-ne-clause-value c = sym (no_number (c.args.most + 1) c.args.word.now c.in-Ok.text.now c.as_bytes.result.now c.parse.result c.in-Ok-parse.number (omega (arith, c.ranges.most)) c.in-Ok.ensures.cases.0 c.parse.ensures.value.0 c.in-Ok-parse.is (c.as_bytes.ensures.value ∙ c.format.ensures.text)
    (λ same lt. apart_words c.as_bytes.result.now c.args.word.now c.ne.result c.ne.ensures c.if-ne.true same))

pub returns-then-number-most-clause-value : goal.returns-then-number-most-clause-value
returns-then-number-most-clause-value c = the_number (c.args.most + 1) c.in-Ok-parse.number c.args.word.now c.as_bytes.result.now (omega (arith, c.ranges.most)) (c.as_bytes.ensures.value ∙ c.format.ensures.text)
    (same_words c.as_bytes.result.now c.args.word.now c.ne.result c.ne.ensures c.if-ne.false) (grind (arith, nat_tests, c.if-number-most.true))

pub returns-else-number-most-clause-value : goal.returns-else-number-most-clause-value
returns-else-number-most-clause-value c = sym (no_number (c.args.most + 1) c.args.word.now c.in-Ok.text.now c.as_bytes.result.now c.parse.result c.in-Ok-parse.number (omega (arith, c.ranges.most)) c.in-Ok.ensures.cases.0 c.parse.ensures.value.0 c.in-Ok-parse.is (c.as_bytes.ensures.value ∙ c.format.ensures.text)
    (λ same lt. grind (arith, nat_tests, c.if-number-most.false)))

use Rattle.std.proofs.Common.{◌≡◌, refl, ℕ, List, [], ◌∷◌, ◌++◌}
use Rattle.std.specs.Prelude.{codes}
use Rattle.std.specs.Io.KnownBytes.{Appends}
use Rattle.line_text.specs.Lines.{text_of}
use Rattle.line_text.proofs.Writes.{Told, IsUnderway, begun, made_more, made_cut, all_written}
use Rattle.answer_spec.specs.declared.answer.Answer.{Answer}
use Rattle.answer_text.specs.Spelling.{heading_lines, request_line, outcome_line}
use Rattle.answer_text.proofs.writing.write_heading.Goals as goal

abbrev version : List ℕ
version = codes "circuit 1" ++ 10 ∷ []

abbrev request : Answer → List ℕ
request a = request_line a.request ++ 10 ∷ []

abbrev outcome : Answer → List ℕ
outcome a = outcome_line a.outcome ++ 10 ∷ []

abbrev left : Answer → List ℕ
left a = request a ++ (outcome a ++ [])

first : (a : Answer) (start next : Told) (made : List ℕ) → made ≡ version → Appends start next made → IsUnderway start next (text_of (heading_lines a)) (left a)
first a start next made is p = made_more start start next (text_of (heading_lines a)) version made (left a) is (begun start (text_of (heading_lines a))) p

second : (a : Answer) (start now next : Told) (made : List ℕ) → made ≡ request a → IsUnderway start now (text_of (heading_lines a)) (left a) → Appends now next made → IsUnderway start next (text_of (heading_lines a)) (outcome a ++ [])
second a start now next made is u p = made_more start now next (text_of (heading_lines a)) (request a) made (outcome a ++ []) is u p

pub returns-in_err-write_line-clause-front : goal.returns-in_err-write_line-clause-front
returns-in_err-write_line-clause-front g c =
    let a = c.args.answer.now in
    let start = g.K.Sink.written c.args.out.now in
    made_cut c.from_residual.result start start _ (text_of (heading_lines a)) version _ (left a) c.make_version_line.ensures (begun start (text_of (heading_lines a))) c.in_err-write_line.ensures.front

pub returns-in_err-write_line-2-clause-front : goal.returns-in_err-write_line-2-clause-front
returns-in_err-write_line-2-clause-front g c =
    let a = c.args.answer.now in
    let start = g.K.Sink.written c.args.out.now in
    let one = g.K.Sink.written c.write_line.new.out in
    let u = first a start one _ c.make_version_line.ensures c.in_ok-write_line.ensures.ok in
    made_cut c.from_residual-in_err-write_line-2.result start one _ (text_of (heading_lines a)) (request a) _ (outcome a ++ []) c.make_request_line.ensures u c.in_err-write_line-2.ensures.front

pub returns-in_err-write_line-3-clause-front : goal.returns-in_err-write_line-3-clause-front
returns-in_err-write_line-3-clause-front g c =
    let a = c.args.answer.now in
    let start = g.K.Sink.written c.args.out.now in
    let one = g.K.Sink.written c.write_line.new.out in
    let two = g.K.Sink.written c.write_line-2.new.out in
    let u = second a start one two _ c.make_request_line.ensures (first a start one _ c.make_version_line.ensures c.in_ok-write_line.ensures.ok) c.in_ok-write_line-2.ensures.ok in
    made_cut c.from_residual-in_err-write_line-3.result start two _ (text_of (heading_lines a)) (outcome a) _ [] c.make_outcome_line.ensures u c.in_err-write_line-3.ensures.front

pub returns-clause-ok : goal.returns-clause-ok
returns-clause-ok g c =
    let a = c.args.answer.now in
    let start = g.K.Sink.written c.args.out.now in
    let one = g.K.Sink.written c.write_line.new.out in
    let two = g.K.Sink.written c.write_line-2.new.out in
    let three = g.K.Sink.written c.write_line-3.new.out in
    let u = second a start one two _ c.make_request_line.ensures (first a start one _ c.make_version_line.ensures c.in_ok-write_line.ensures.ok) c.in_ok-write_line-2.ensures.ok in
    all_written start three (text_of (heading_lines a)) [] refl (made_more start two three (text_of (heading_lines a)) (outcome a) _ [] c.make_outcome_line.ensures u c.in_ok-write_line-3.ensures.ok)

use Rattle.std.proofs.Common.{◌∙◌, ap, Bool}
use Rattle.line_text.specs.Fields.{kept_if}
use Rattle.answer_text.specs.Reading.{Nothing, Version, same_answer}
use Rattle.answer_text.proofs.Resumed.{leads_only}
use Rattle.answer_text.proofs.reading.read_version.Goals as goal

pub returns : goal.returns
returns c = leads_only Nothing Version 1 c.args.bytes.now c.in-Some.line.now c.in-Some.later.now c.read_request.result c.in-Some.ensures.cut
    (c.is_version.ensures ∙ ap (λ (t : Bool). kept_if t (Version, same_answer)) c.if-not-is_version.false) c.read_request.ensures

use Rattle.std.proofs.Common.{◌∙◌, sym, ap, Some}
use Rattle.answer_text.specs.Reading.{Phase, Asked, add_request}
use Rattle.answer_text.specs.Taking.{phase_of, behind_answer}
use Rattle.answer_text.specs.Views.{outcome_added}
use Rattle.answer_text.proofs.Resumed.{leads_behind}
use Rattle.answer_text.proofs.reading.read_outcome.Goals as goal

pub returns-in-Ok : goal.returns-in-Ok
returns-in-Ok c =
    let add = (outcome_added c.in-Ok.outcome).1 in
    leads_behind Asked (phase_of c.new.result) 3 c.args.rest.now c.in-Some.line.now c.in-Some.later.now (add_request c.args.request) (behind_answer c.new.result.answer) add c.read_body.result c.in-Some.ensures.cut
    (c.in-Ok.ensures ∙ ap (λ (t : Phase). Some (t, add)) (sym c.new.ensures.phase)) (λ a. sym (c.new.ensures.answer a)) c.read_body.ensures

use Rattle.std.proofs.Common.{ap}
use Rattle.std.specs.Prelude.{option_map}
use Rattle.answer_text.specs.Reading.{Version, Asked, RequestWords, request_of, add_request}
use Rattle.answer_text.proofs.Resumed.{leads_on}
use Rattle.answer_text.proofs.reading.read_request.Goals as goal

pub returns-in-Ok : goal.returns-in-Ok
returns-in-Ok c = leads_on Version Asked 2 c.args.rest.now c.in-Some.line.now c.in-Some.later.now (add_request c.in-Ok.request) c.read_outcome.result c.in-Some.ensures.cut
    (ap (option_map (λ (t : RequestWords). (Asked, add_request (request_of t)))) c.in-Ok.ensures) c.read_outcome.ensures

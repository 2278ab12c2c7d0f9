use Rattle.answer_text.specs.Leading.{line_step}
use Rattle.answer_text.proofs.Keyed.{given_else}
use Rattle.answer_text.proofs.body.pots_said.Goals as goal

pub returns-in-Err-Misfit : goal.returns-in-Err-Misfit
returns-in-Err-Misfit c = λ at. given_else (line_step at) c.end_said.result _ _ (rw c.in-Err-Misfit.field-0-is at c.in-Err-Misfit.ensures) (c.end_said.ensures at)

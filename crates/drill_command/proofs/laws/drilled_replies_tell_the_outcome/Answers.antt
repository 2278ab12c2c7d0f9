use Rattle.drill_command.proofs.Told.{told, told_once, never_none}
use Rattle.drill_command.proofs.laws.drilled_replies_tell_the_outcome.Goals as goal

pub returns-clause-outcome : goal.returns-clause-outcome
returns-clause-outcome c = told

pub returns-clause-one : goal.returns-clause-one
returns-clause-one c = told_once

pub returns-clause-walk : goal.returns-clause-walk
returns-clause-walk c = never_none

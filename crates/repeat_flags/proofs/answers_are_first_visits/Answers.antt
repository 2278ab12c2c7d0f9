use Rattle.repeat_flags.proofs.First.{behind_all}
use Rattle.repeat_flags.proofs.answers_are_first_visits.Goals as goal

pub returns : goal.returns
returns c = behind_all

use Rattle.drill_command.proofs.drilling.answered.Goals as goal

pub checked-requires-clause-sound : goal.checked-requires-clause-sound
checked-requires-clause-sound c = c.requires.sound

pub checked-requires-clause-formed : goal.checked-requires-clause-formed
checked-requires-clause-formed c = c.in_ok-answer.ensures.formed

pub checked-requires-clause-certified : goal.checked-requires-clause-certified
checked-requires-clause-certified c = c.in_ok-answer.ensures.solved.certified

pub returns-clause-solved : goal.returns-clause-solved
returns-clause-solved c = c.in_ok-answer.ensures.solved

pub returns-clause-formed : goal.returns-clause-formed
returns-clause-formed c = c.in_ok-answer.ensures.formed

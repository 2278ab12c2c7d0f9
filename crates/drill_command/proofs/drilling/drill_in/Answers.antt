use Rattle.drill_command.proofs.drilling.drill_in.Goals as goal

pub answered-requires : goal.answered-requires
answered-requires c = c.requires

pub told-requires-clause-sound : goal.told-requires-clause-sound
told-requires-clause-sound c = c.requires.sound

pub told-requires-clause-formed : goal.told-requires-clause-formed
told-requires-clause-formed c = c.in_ok-answer.ensures.formed

pub told-requires-clause-exact : goal.told-requires-clause-exact
told-requires-clause-exact c = c.in_ok-answer.ensures.solved.exact

pub returns : goal.returns
returns c = record { answer = c.in_ok-answer.answer; solved = c.in_ok-answer.ensures.solved; is = c.in_ok-reply.ensures }

use Rattle.drill_command.proofs.Told.{never_refused}
use Rattle.drill_command.proofs.drilling.solved.Goals as goal

pub want_of_memory-requires : goal.want_of_memory-requires
want_of_memory-requires c = never_refused c.args.inventory.now c.args.request.now c.in-Err.fault c.requires.known c.in-Err.ensures.fault

use Rattle.knuth_search.proofs.run.turn.Goals as goal

pub settle-requires-clause-closed : goal.settle-requires-clause-closed
settle-requires-clause-closed c = record { earlier = c.args.table.now.pots; added = c.in_ok-put.ensures.pots; closed = c.requires.closed }

use Rattle.std.proofs.Common.{refl}
use Rattle.segment_grammar.proofs.Indexing.{index_of}
use Rattle.segment_grammar.proofs.index.Index.new.Goals as goal

pub returns : goal.returns
returns c = index_of c.args.machine.now _ c.states-count.result c.states-count.ensures refl c.in_ok-from_flats.ensures.lists c.in_ok-from_pushes.ensures.lists c.in_ok-into_pushes.ensures.lists c.in_ok-at_pops.ensures.pops c.in_ok-at_pops.ensures.within

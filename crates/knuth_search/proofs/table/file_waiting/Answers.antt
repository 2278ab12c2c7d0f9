use Rattle.std.proofs.Common.{subst, sym, Contains}
use Rattle.segment_grammar.specs.Rows.{row_of}
use Rattle.knuth_search.proofs.Filed.{added_here}
use Rattle.knuth_search.proofs.table.file_waiting.Goals as goal

pub returns-clause-here : goal.returns-clause-here
returns-clause-here c machine index left = subst (λ r. Contains (row_of r c.args.item.state.0) c.args.item) (sym c.in_ok-add.ensures.added) (added_here c.args.rows.now c.args.item.state.0 c.args.item c.requires.row)
